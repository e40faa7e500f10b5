-- One strategy after another along two words: an end of both passes by an end of the first. And a strategy along both is resumed at each
-- end of its first part.
use mathlib.Core.Path.{◌≡◌, refl, sym, ◌∙◌, subst}
use mathlib.Core.Bool.{Bool, true, false, ◌&&◌, true≢false}
use mathlib.Core.Logic.{◌⊎◌, inl, inr}
use mathlib.Core.List.{[], ◌∷◌, ◌++◌}
use Prim.Native.Nat.{ℕ}
use Rattle.words.specs.Tag.{Word, code_of}
use Rattle.words.proofs.Truth.{true_or_false}
use Rattle.game.specs.Arena.{read, fetch, Strategy, after, Arena, Ends}
use Rattle.game.proofs.Solve.{went, by_move}

-- what follows a move, if it is the one that was due; if it is not, which does not come up, all is read
after_read : (b : Bool) → (b ≡ false → Strategy) → (b ≡ true) ⊎ (b ≡ false) → Strategy
after_read b next (inl e) = λ h. false
after_read b next (inr e) = next e

after_fetch : (b : Bool) (L : Type 0) → (b ≡ true → L → Strategy) → (b ≡ true) ⊎ (b ≡ false) → Dec L → Strategy
after_fetch b L next (inl e) (yes l) = next e l
after_fetch b L next (inl e) (no n) = λ h. false
after_fetch b L next (inr e) d = λ h. false

module _ (G : Arena) where
  module _ (w : Word) (x z : G.Pos) (b : Bool) where
    ends_read : (next : b ≡ false → Strategy) (d : (b ≡ true) ⊎ (b ≡ false)) → b ≡ false → Ends G (after_read b next d) w x z →
        (e : b ≡ false) × Ends G (next e) w x z
    unfolding after_read
    ends_read next (inl e) h k = absurd (true≢false (sym e ∙ h))
    ends_read next (inr e) h k = (e, k)

    ends_fetch : (L : Type 0) (next : b ≡ true → L → Strategy) (d : (b ≡ true) ⊎ (b ≡ false)) (q : Dec L) → b ≡ true → L →
        Ends G (after_fetch b L next d q) w x z → (e : b ≡ true) × (l : L) × Ends G (next e l) w x z
    unfolding after_fetch
    ends_fetch L next (inl e) (yes l) h m k = (e, l, k)
    ends_fetch L next (inl e) (no n) h m k = absurd (n m)
    ends_fetch L next (inr e) q h m k = absurd (true≢false (sym h ∙ e))

  module _ (lawful? : (c : ℕ) (u : Word) → Dec (G.Lawful c u)) where
    -- σ along u from x, then the strategy that τ has for the end to which the history so far leads
    pub in_turn : (σ : Strategy) (u : Word) (x : G.Pos) → ((y : G.Pos) → Ends G σ u x y → Strategy) → Strategy
    in_turn σ [] x τ h = τ x refl h
    in_turn σ (t ∷ u) x τ [] = σ []
    in_turn σ (t ∷ u) x τ (read ∷ h) =
        after_read (G.may t x && σ [])
        (λ e. in_turn (after σ read) u (G.step read t x) (λ y k. τ y (went G σ t u x y false e k)))
        (true_or_false (G.may t x && σ [])) h
    in_turn σ (t ∷ u) x τ (fetch r ∷ h) =
        after_fetch (G.may t x && σ []) (G.Lawful (code_of t) r)
        (λ e l. in_turn (after σ (fetch r)) u (G.step (fetch r) t x) (λ y k. τ y (went G σ t u x y true e (r, l, k))))
        (true_or_false (G.may t x && σ [])) (lawful? (code_of t) r) h

    module _ (v : Word) (z : G.Pos) where
      -- an end y of σ along u, from which the strategy for it ends in z
      abbrev PassesBy : (σ : Strategy) (u : Word) (x : G.Pos) → ((y : G.Pos) → Ends G σ u x y → Strategy) → Type 0
      PassesBy σ u x τ = (y : G.Pos) × (first : Ends G σ u x y) × Ends G (τ y first) v y z

      pub passes_by : (σ : Strategy) (u : Word) (x : G.Pos) (τ : (y : G.Pos) → Ends G σ u x y → Strategy) →
          Ends G (in_turn σ u x τ) (u ++ v) x z → PassesBy σ u x τ
      unfolding in_turn after
      passes_by σ [] x τ e = (x, refl, e)
      passes_by σ (t ∷ u) x τ e =
          by_move G (in_turn σ (t ∷ u) x τ) t (u ++ v) x z
          (λ r h l k.
          let (e', l', k') = ends_fetch (u ++ v) (G.step (fetch r) t x) z (G.may t x && σ []) (G.Lawful (code_of t) r) _
          (true_or_false (G.may t x && σ [])) (lawful? (code_of t) r) h l k in
          let (y, first, second) = passes_by (after σ (fetch r)) u (G.step (fetch r) t x) _ k' in
          (y, went G σ t u x y true e' (r, l', first), second))
          (λ h k.
          let (e', k') = ends_read (u ++ v) (G.step read t x) z (G.may t x && σ []) _ (true_or_false (G.may t x && σ [])) h k in
          let (y, first, second) = passes_by (after σ read) u (G.step read t x) _ k' in
          (y, went G σ t u x y false e' first, second))
          e

  -- ρ resumed at y along v: what it ends in from there it ends in from x
  abbrev Resumes : Strategy → Word → Word → G.Pos → G.Pos → Type 0
  Resumes ρ u v x y = (σ : Strategy) × ((z : G.Pos) → Ends G σ v y z → Ends G ρ (u ++ v) x z)

  pub resumed : (ρ : Strategy) (u v : Word) (x y : G.Pos) → Ends G ρ u x y → Resumes ρ u v x y
  resumed ρ [] v x y e = (ρ, λ z k. subst (λ p. Ends G ρ v p z) (sym e) k)
  resumed ρ (t ∷ u) v x y e =
      by_move G ρ t u x y
      (λ r h l k.
      let (σ, on) = resumed (after ρ (fetch r)) u v (G.step (fetch r) t x) y k in
      (σ, λ z j. went G ρ t (u ++ v) x z true h (r, l, on z j)))
      (λ h k.
      let (σ, on) = resumed (after ρ read) u v (G.step read t x) y k in
      (σ, λ z j. went G ρ t (u ++ v) x z false h (on z j)))
      e
