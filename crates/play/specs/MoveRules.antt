-- When a move is refused (SPEC 7.21, 7.22, 7.24; a fetch also by `fetch_rules`), and in what order (SPEC 7.3).
use Rattle.std.specs.Prelude.{◌≡◌, List, [], ◌∷◌, ◌++◌, ℕ, ◌<◌, ◌≤◌, length}
use Rattle.std.proofs.Math.Decide.{dec_le, dec_lt, ℕ_discrete}
use Rattle.words.specs.Decide.Deciders.{not?, both?}
use Rattle.words.specs.Tag.{Tag, Word, word_of}
use Rattle.automata.specs.Target.{Target}
use Rattle.job.specs.Refusal.{RefusalRule, rule}
use Rattle.game.specs.Game.{Game}
use Rattle.fetching.specs.FetchRules.{fetch_rules}
use Rattle.play.specs.Play.{PlayFits}
use Rattle.play.specs.Moves.{MoveCall, to_read, to_fetch, tag_at, count_after}
use Rattle.play.specs.Decide.Play.{play_fits?}
use Rattle.play.specs.declared.Play.{Play}

-- 21: the play does not fit the record, or the buffer has no room for what is finished
abbrev pub rule21 : Target → Word → Play → ℕ → RefusalRule
rule21 A w p room = rule 21 (¬ (PlayFits A w p × (p.count ≤ room))) (not? (both? (play_fits? A w p) (dec_le p.count room)))

-- 22: the record is at its end
abbrev pub rule22 : List ℕ → Play → RefusalRule
rule22 bytes p = rule 22 (p.position ≡ length bytes) (ℕ_discrete p.position (length bytes))

-- 24: the buffer has no room for what is finished after the move
abbrev pub rule24 : Play → MoveCall → ℕ → RefusalRule
rule24 p m room = rule 24 (room < count_after p m) (dec_lt room (count_after p m))

-- at the tag that the move uses up, those of a fetch
abbrev pub tag_rules : Game → Tag → MoveCall → List RefusalRule
tag_rules G t to_read = []
tag_rules G t (to_fetch u) = fetch_rules G t u

-- the refusals of a move with a buffer that has room for so many bytes
unfoldable pub play_rules : Game → List ℕ → Play → MoveCall → ℕ → List RefusalRule
play_rules G bytes p m room =
    rule21 G.target (word_of bytes) p room ∷ rule22 bytes p ∷ (tag_rules G (tag_at bytes p) m ++ (rule24 p m room ∷ []))
