-- A rule of play with finitely many results of each fetch: won and lost are decided over it.
use Rattle.std.specs.Prelude.{◌≡◌, true, ℕ}
use mathlib.Core.List.{List, Memᴰ}
use Rattle.words.specs.Tag.{Word}
use Rattle.game.specs.Rule.{Rule}

-- Every value that comes up fits, and for those that fit the results are listed: a value is listed exactly when some lawful reply leads
-- there.
pub record Listed (R : Rule) : Type 1 where
  pub Fit : R.Val → Type 0
  pub results : ℕ → R.Val → R.Val → List R.Val
  pub fit_into : (c : ℕ) (v : R.Val) → Fit v → Fit (R.into c v)
  pub fit_out : (c : ℕ) (v r : R.Val) → Fit v → Fit r → Fit (R.out c v r)
  pub fit_reply : (c : ℕ) (v r : R.Val) (u : Word) → Fit v → Fit r → R.may c v r ≡ true → R.Lawful c u → Fit (R.reply c v r u)
  pub sound : (c : ℕ) (v r s : R.Val) → Fit v → Fit r → R.may c v r ≡ true → Memᴰ s (results c v r) →
      (u : Word) × R.Lawful c u × (R.reply c v r u ≡ s)
  pub complete : (c : ℕ) (v r : R.Val) (u : Word) → Fit v → Fit r → R.may c v r ≡ true → R.Lawful c u →
      Memᴰ (R.reply c v r u) (results c v r)
