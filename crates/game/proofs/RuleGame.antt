-- The arena of a rule is solvable, where the results of every fetch are listed.
use mathlib.Core.Path.{◌≡◌, ◌∙◌, ap}
use mathlib.Core.Bool.{true, false≢true}
use mathlib.Core.List.Memᴰ
use mathlib.Core.List.{List, [], ◌∷◌, map, Memᴰ}
use Prim.Native.Nat.{ℕ}
use lib.ListN.{length}
use Rattle.words.specs.Tag.{Tag, opening, closing, Word, code_of}
use Rattle.automata.specs.Target.{Held, at, stuck}
use Rattle.game.specs.Arena.{read, fetch}
use Rattle.game.specs.Rule.{Rule, arena}
use Rattle.game.specs.Listed.{Listed}
use Rattle.game.proofs.Solve.{Finite}
use Rattle.words.specs.Inner.Rest.{Closes}
use Rattle.words.proofs.RestLaws.{closes_opened, closes_closed, closes_none_open}

module _ {X : Type 0} where
  abbrev pub AllFit : (X → Type 0) → List X → Type 0
  AllFit Fit [] = Unit {0}
  AllFit Fit (k ∷ ks) = Fit k × AllFit Fit ks

  -- the positions that a play along w can hold: values that fit, and as many kept as w closes
  abbrev pub FitsBy : (X → Type 0) → Word → Held X → Type 0
  FitsBy Fit w (at v ks) = Fit v × AllFit Fit ks × Closes (length ks) w
  FitsBy Fit w stuck = ⊥

  -- the positions after a fetch: each listed result, with what was kept before
  abbrev pub fetched : (ℕ → X → X → List X) → Tag → Held X → List (Held X)
  fetched results (opening c) k = []
  fetched results (closing c) (at r []) = []
  fetched results (closing c) (at r (v ∷ ks)) = map (λ s. at s ks) (results c v r)
  fetched results (closing c) stuck = []

module _ (R : Rule) (L : Listed R) where
  abbrev Pos : Type 0
  Pos = Held R.Val

  abbrev RuleFits : Word → Pos → Type 0
  RuleFits = FitsBy L.Fit

  pub fits_read : (t : Tag) (w : Word) (x : Pos) → RuleFits (t ∷ w) x → RuleFits w ((arena R).step read t x)
  fits_read (opening c) w (at v ks) (h, b, k) = (L.fit_into c v h, (h, b), closes_opened k)
  fits_read (opening c) w stuck g = g
  fits_read (closing c) w (at r []) (h, b, k) = closes_none_open k
  fits_read (closing c) w (at r (v ∷ ks)) (h, b, k) = (L.fit_out c v r b.0 h, b.1, closes_closed k)
  fits_read (closing c) w stuck g = g

  module _ (w : Word) where
    -- what a fetch asks: it is allowed, the position fits, and the reply is lawful
    pub fits_fetch : (t : Tag) (x : Pos) (u : Word) → RuleFits (t ∷ w) x → (arena R).may t x ≡ true → R.Lawful (code_of t) u →
        RuleFits w ((arena R).step (fetch u) t x)
    fits_fetch (opening c) x u g m l = absurd (false≢true m)
    fits_fetch (closing c) (at r []) u g m l = absurd (false≢true m)
    fits_fetch (closing c) (at r (v ∷ ks)) u (h, b, k) m l = (L.fit_reply c v r u b.0 h m l, b.1, closes_closed k)
    fits_fetch (closing c) stuck u g m l = absurd g

    pub fetch_sound : (t : Tag) (x y : Pos) → RuleFits (t ∷ w) x → (arena R).may t x ≡ true → Memᴰ y (fetched L.results t x) →
        (u : Word) × R.Lawful (code_of t) u × ((arena R).step (fetch u) t x ≡ y)
    fetch_sound (opening c) x y g m i = absurd (false≢true m)
    fetch_sound (closing c) (at r []) y g m i = absurd (false≢true m)
    fetch_sound (closing c) (at r (v ∷ ks)) y (h, b, k) m i =
        let p = Memᴰ.of_map (λ s. at s ks) (L.results c v r) i in
        let s = L.sound c v r p.0 b.0 h m p.1 in
        (s.0, s.1, ap (λ z. at z ks) s.2 ∙ p.2)
    fetch_sound (closing c) stuck y g m i = absurd g

    pub fetch_complete : (t : Tag) (x : Pos) (u : Word) → RuleFits (t ∷ w) x → (arena R).may t x ≡ true → R.Lawful (code_of t) u →
        Memᴰ ((arena R).step (fetch u) t x) (fetched L.results t x)
    fetch_complete (opening c) x u g m l = absurd (false≢true m)
    fetch_complete (closing c) (at r []) u g m l = absurd (false≢true m)
    fetch_complete (closing c) (at r (v ∷ ks)) u (h, b, k) m l = Memᴰ.map (λ z. at z ks) (L.complete c v r u b.0 h m l)
    fetch_complete (closing c) stuck u g m l = absurd g

  unfoldable pub rule_finite : Finite (arena R)
  rule_finite =
      record {
        Good = RuleFits;
        results = fetched L.results;
        good_read = fits_read;
        good_fetch = λ t w x u g m l. fits_fetch w t x u g m l;
        sound = λ t w x y g m i. fetch_sound w t x y g m i;
        complete = λ t w x u g m l. fetch_complete w t x u g m l;
      }
