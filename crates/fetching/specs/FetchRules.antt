-- When a fetch is refused by its tag and its reply (SPEC 7.18, 7.19, 7.23), and in what order (SPEC 7.3).
use Rattle.std.specs.Prelude.{◌≡◌, true, List, [], ◌∷◌, ℕ}
use Rattle.std.proofs.Math.Bool.{Bool-discrete}
use Rattle.words.specs.Decide.Words.{within_depth?}
use Rattle.words.specs.Decide.Deciders.{not?}
use Rattle.words.specs.Tag.{Tag, code_of, word_of}
use Rattle.automata.specs.Reply.{Lawful}
use Rattle.automata.specs.Small.{most_reply_depth, Small}
use Rattle.automata.proofs.Lawful.{lawful?}
use Rattle.job.specs.Refusal.{RefusalRule, rule}
use Rattle.game.specs.Game.{Game, allowed}

-- a fetch is allowed at a tag, and a reply is lawful there
abbrev pub FetchAllowed : Game → Tag → Type 0
FetchAllowed G t = allowed G t ≡ true

abbrev pub LawfulAt : Game → Tag → List ℕ → Type 0
LawfulAt G t u = Lawful (G.forms (code_of t)) (word_of u)

-- 23, 18 and 19: no fetch is allowed, the reply is no well-nested word that is small enough, or it is not lawful
abbrev pub rule23 : Game → Tag → RefusalRule
rule23 G t = rule 23 (¬ FetchAllowed G t) (not? (Bool-discrete (allowed G t) true))

abbrev pub rule18 : List ℕ → RefusalRule
rule18 u = rule 18 (¬ Small u) (not? (within_depth? most_reply_depth u))

abbrev pub rule19 : Game → Tag → List ℕ → RefusalRule
rule19 G t u = rule 19 (¬ LawfulAt G t u) (not? (lawful? (G.forms (code_of t)) (word_of u)))

abbrev pub fetch_rules : Game → Tag → List ℕ → List RefusalRule
fetch_rules G t u = rule23 G t ∷ rule18 u ∷ rule19 G t u ∷ []
