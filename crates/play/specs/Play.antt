-- Plays (SPEC 3.8, 3.9), and when one fits a record (SPEC 7.21).
use Rattle.std.specs.Prelude.{◌≡◌, ℕ, suc, ◌<◌, ◌≤◌, length, drop, get_or, replicate}
use Rattle.words.specs.Stack.{newest_first}
use Rattle.words.specs.Tag.{Word}
use Rattle.automata.specs.Target.{Target, Config, at}
use Rattle.words.specs.Opened.{open_at}
use Rattle.advice.specs.Kept.{play_slots}
use Rattle.play.specs.declared.Play.{Play}

-- a play in a state with nothing finished and nothing open
abbrev pub play_in : ℕ → Play
play_in q = record { position = 0; state = q; count = 0; depth = 0; kept = replicate play_slots 0; begins = replicate play_slots 0 }

-- the play at the record's start
abbrev pub start_play : Target → Play
start_play A = play_in A.start

-- the play that is given where there is no record
abbrev pub nowhere : Play
nowhere = play_in 0

-- what a play holds, as a position of the held arena
unfoldable pub held_of : Play → Config
held_of p = at p.state (newest_first p.kept p.depth)

-- the tags left
abbrev pub tags_left : Word → Play → Word
tags_left w p = drop p.position w

-- Refusal 21 is given to a play that is not this (SPEC 7.21). A move also asks for a buffer that is not below the count.
pub record PlayFits (A : Target) (w : Word) (p : Play) : Type 0 where
  pub within : p.position ≤ length w
  pub own_state : p.state < A.states
  pub as_many : p.depth ≡ open_at w p.position
  pub kept_states : (i : ℕ) → i < p.depth → get_or p.kept i 0 < A.states
  pub kept_unused : (i : ℕ) → p.depth ≤ i → get_or p.kept i 0 ≡ 0
  pub begins_unused : (i : ℕ) → p.depth ≤ i → get_or p.begins i 0 ≡ 0
  pub begins_rising : (i : ℕ) → suc i < p.depth → get_or p.begins i 0 ≤ get_or p.begins (suc i) 0
  pub begins_below : (i : ℕ) → i < p.depth → get_or p.begins i 0 ≤ p.count
