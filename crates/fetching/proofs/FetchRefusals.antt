-- Each refusal of a fetch by its tag and reply under its condition, and what a fetch that gets none has passed.
use mathlib.Core.Path.{◌≡◌, ◌∙◌}
use mathlib.Core.Bool.{true, Bool-discrete}
use mathlib.Core.HLevel.{dec→stable}
use mathlib.Core.List.{List, []}
use Prim.Native.Nat.{ℕ}
use lib.Dec.{lit<}
use Rattle.words.specs.Decide.Words.{within_depth?}
use Rattle.words.specs.Tag.{Tag, code_of, word_of}
use Rattle.automata.specs.Small.{most_reply_depth, Small}
use Rattle.automata.proofs.Lawful.{lawful?}
use Rattle.job.specs.Refusal.{first_of}
use Rattle.job.proofs.Accepted.{positive}
use Rattle.job.proofs.Refusals.{Numbered, NoneBroken, first_broken, first_kept}
use Rattle.game.specs.Game.{Game, allowed}
use Rattle.fetching.specs.FetchRules.{FetchAllowed, LawfulAt, rule23, rule18, rule19, fetch_rules}

module _ (G : Game) (t : Tag) (u : List ℕ) where
  -- what a fetch has to pass
  abbrev pub FetchTaken : Type 0
  FetchTaken = FetchAllowed G t × Small u × LawfulAt G t u

  pub refused_23 : ¬ FetchAllowed G t → first_of (fetch_rules G t u) ≡ 23
  refused_23 n = first_broken (rule23 G t) _ n

  pub refused_18 : FetchAllowed G t → ¬ Small u → first_of (fetch_rules G t u) ≡ 18
  refused_18 a n = first_kept (rule23 G t) _ (λ m. m a) ∙ first_broken (rule18 u) _ n

  pub refused_19 : FetchAllowed G t → Small u → ¬ LawfulAt G t u → first_of (fetch_rules G t u) ≡ 19
  refused_19 a s n = first_kept (rule23 G t) _ (λ m. m a) ∙ first_kept (rule18 u) _ (λ m. m s) ∙ first_broken (rule19 G t u) [] n

  pub fetch_kept : FetchTaken → NoneBroken (fetch_rules G t u)
  fetch_kept x = (λ n. n x.0, (λ n. n x.1, (λ n. n x.2, tt)))

  pub kept_fetch : NoneBroken (fetch_rules G t u) → FetchTaken
  kept_fetch x = (
    dec→stable (Bool-discrete (allowed G t) true) x.0,
    dec→stable (within_depth? most_reply_depth u) x.1.0,
    dec→stable (lawful? (G.forms (code_of t)) (word_of u)) x.1.1.0,
  )

  pub fetch_numbered : Numbered (fetch_rules G t u)
  fetch_numbered = (positive 23 (lit< tt), (positive _ (lit< tt), (positive _ (lit< tt), tt)))
