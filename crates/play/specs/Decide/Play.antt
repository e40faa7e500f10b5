-- Whether a play fits is decidable. A reader of the contracts needs only the types marked `pub`.
use Rattle.std.specs.Prelude.{◌≡◌, List, ℕ, suc, ◌+◌, ◌-◌, ◌<◌, ◌≤◌, length, get_or}
use Rattle.std.proofs.Common.{subst, arith}
use Rattle.std.proofs.Math.Decide.{dec_le, dec_lt, ℕ_discrete, map_dec}
use Rattle.std.proofs.Math.ListN.{get_or-eq_default}
use Rattle.words.specs.Decide.Deciders.{both?, below?}
use Rattle.words.specs.Tag.{Word}
use Rattle.automata.specs.Target.{Target}
use Rattle.words.specs.Opened.{open_at}
use Rattle.play.specs.Play.{PlayFits}
use Rattle.play.specs.Inner.Slots.{Rising}
use Rattle.play.specs.declared.Play.{Play}

-- every place of a list from d on is zero
abbrev Unused : List ℕ → ℕ → Type 0
Unused l d = (i : ℕ) → d ≤ i → get_or l i 0 ≡ 0

unused? : (l : List ℕ) (d : ℕ) → Dec (Unused l d)
unused? l d = map_dec there back (below? (λ j. get_or l (d + j) 0 ≡ 0) (λ j. ℕ_discrete (get_or l (d + j) 0) 0) (length l))
  where
    there : ((j : ℕ) → j < length l → get_or l (d + j) 0 ≡ 0) → Unused l d
    there h i k =
        elim (dec_lt i (length l)) [
          | yes b ↦ let e : d + (i - d) ≡ i = omega arith in subst (λ x. get_or l x 0 ≡ 0) e (h (i - d) (omega arith))
          | no n ↦ let b : length l ≤ i = omega arith in get_or-eq_default l 0 b
        ]

    back : Unused l d → (j : ℕ) → j < length l → get_or l (d + j) 0 ≡ 0
    back h j k = h (d + j) (omega arith)

module _ (A : Target) (w : Word) (p : Play) where
  rising? : Dec (Rising p.begins p.depth)
  rising? =
      map_dec (λ h i l. h i (omega arith)) (λ h i l. h i (omega arith))
      (below? (λ i. get_or p.begins i 0 ≤ get_or p.begins (suc i) 0)
      (λ i. dec_le (get_or p.begins i 0) (get_or p.begins (suc i) 0)) (p.depth - 1))

  pub play_fits? : Dec (PlayFits A w p)
  play_fits? =
      map_dec
      (λ x. record {
        within = x.0.0;
        own_state = x.0.1.0;
        as_many = x.0.1.1;
        kept_states = x.1.0;
        kept_unused = x.1.1.0.0;
        begins_unused = x.1.1.0.1;
        begins_rising = x.1.1.1.0;
        begins_below = x.1.1.1.1;
      })
      (λ f. (
        (f.within, (f.own_state, f.as_many)),
        (f.kept_states, ((f.kept_unused, f.begins_unused), (f.begins_rising, f.begins_below))),
      ))
      (both?
      (both? (dec_le p.position (length w)) (both? (dec_lt p.state A.states) (ℕ_discrete p.depth (open_at w p.position))))
      (both? (below? (λ i. get_or p.kept i 0 < A.states) (λ i. dec_lt (get_or p.kept i 0) A.states) p.depth)
      (both? (both? (unused? p.kept p.depth) (unused? p.begins p.depth))
      (both? rising? (below? (λ i. get_or p.begins i 0 ≤ p.count) (λ i. dec_le (get_or p.begins i 0) p.count) p.depth)))))
