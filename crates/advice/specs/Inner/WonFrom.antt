-- The states from which the rest of a record is won, with the kept states of the open elements, and what the code that computes them asks
-- for.
use Rattle.std.specs.Prelude.{◌≡◌, true, ◌↔◌, List, ℕ, ◌-◌, ◌<◌, ◌≤◌, length, get_or}
use Rattle.words.specs.Tag.{Word, word_of}
use Rattle.automata.specs.Bits.{bit}
use Rattle.automata.specs.Target.{at}
use Rattle.automata.specs.TargetBody.{target_of}
use Rattle.job.specs.Record.{most_record_depth}
use Rattle.game.specs.Arena.{Won}
use Rattle.game.specs.Game.{Game}
use Rattle.game.specs.Held.{held}
use Rattle.solver.specs.Inner.PlayedWith.{PlayedWith}
use Rattle.solver.specs.Inner.Evaluated.{Judgeable}
use Rattle.words.specs.Inner.Rest.{Rest}
use Rattle.advice.specs.Kept.{play_slots}

-- of the target's states, a mask has those from which the tags w are won with ks kept
abbrev pub WonFrom : List ℕ → List ℕ → Word → List ℕ → ℕ → Type 0
WonFrom target sets w ks m =
    (G : Game) → PlayedWith G target sets → (q : ℕ) → q < (target_of target).states → (bit m q ≡ true) ↔ Won (held G) w (at q ks)

-- the rest of a record, with `depth` elements open and a kept state for each
pub record Left (target sets rest kept : List ℕ) (depth : ℕ) : Type 0 where
  pub judgeable : Judgeable target sets rest (length rest)
  pub suffix : Rest most_record_depth depth (word_of rest)
  pub kept_states : (i : ℕ) → i < depth → get_or kept i 0 < (target_of target).states

-- the rest of a record past the next tag, which closes the innermost of `depth` open elements, with a kept state for each
pub record LeftPast (target sets rest kept : List ℕ) (depth : ℕ) : Type 0 where
  pub some_open : 0 < depth
  pub few_open : depth ≤ play_slots
  pub newest_state : get_or kept (depth - 1) 0 < (target_of target).states
  pub around : Left target sets rest kept (depth - 1)
