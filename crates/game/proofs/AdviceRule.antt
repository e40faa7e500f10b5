-- Advice over any rule whose results are listed, from the tests of the two moves: whether reading is won, and whether fetching is. Exactly
-- one number is advised.
use mathlib.Core.Path.{◌≡◌, refl, sym, ◌∙◌, ap, subst}
use mathlib.Core.Bool.{Bool, true, false, cond, ◌&&◌, ◌||◌, true≢false}
use mathlib.Core.Logic.{◌⊎◌, ◌↔◌, inl, inr, ⊎_elim}
use mathlib.Core.List.{List, ◌∷◌}
use Prim.Native.Nat.{ℕ, ◌<◌}
use native.Mathlib.Omega.{arith}
use lib.Dec.{lit<}
use Rattle.words.specs.Exactly.{Exactly}
use Rattle.words.specs.Tag.{Tag, code_of, Word}
use Rattle.words.specs.Inner.All.{all}
use Rattle.words.proofs.ListLaws.{all_at, not_all}
use Rattle.words.proofs.Truth.{and_both, true_or_false}
use Rattle.automata.specs.Target.{Held}
use Rattle.game.specs.Advice.{Advised}
use Rattle.game.specs.Arena.{read, fetch, Won, Lost, ReadKeepsWon, FetchKeepsWon}
use Rattle.game.specs.Listed.{Listed}
use Rattle.game.specs.Rule.{Rule, arena}
use Rattle.game.proofs.RuleGame.{FitsBy, fetched, fits_read, fits_fetch, fetch_sound, fetch_complete, rule_finite}
use Rattle.game.proofs.Solve.{win_at, won_lost, won_iff, lost_iff}

-- the number advised: to read if that is won, else to fetch if that is won, else that the play is lost
abbrev pub advice_number : Bool → Bool → ℕ
advice_number reads fetches = cond reads 1 (cond fetches 2 0)

number_few : (r f : Bool) → advice_number r f < 3
number_few true f = lit< tt
number_few false true = lit< tt
number_few false false = lit< tt

-- by any rule with listed results: what reading and fetching keep won, as tests
module _ (R : Rule) (L : Listed R) (t : Tag) (w : Word) (k : Held R.Val) (fits : FitsBy L.Fit (t ∷ w) k) where
  abbrev win : Held R.Val → Bool
  win = win_at (arena R) (rule_finite R L) w

  abbrev read_wins : Bool
  read_wins = win ((arena R).step read t k)

  abbrev reached : List (Held R.Val)
  reached = fetched L.results t k

  abbrev fetching_wins : Bool
  fetching_wins = (arena R).may t k && all win reached

  read_iff : ReadKeepsWon (arena R) t w k ↔ (read_wins ≡ true)
  unfolding rule_finite
  read_iff = won_iff (arena R) (rule_finite R L) w ((arena R).step read t k) (fits_read R L t w k fits)

  after_fetch : (u : Word) → (arena R).may t k ≡ true → R.Lawful (code_of t) u →
      Won (arena R) w ((arena R).step (fetch u) t k) ↔ (win ((arena R).step (fetch u) t k) ≡ true)
  unfolding rule_finite
  after_fetch u m l =
      won_iff (arena R) (rule_finite R L) w ((arena R).step (fetch u) t k) (fits_fetch R L w t k u fits m l)

  -- after every lawful reply exactly if after every listed result
  fetch_iff : FetchKeepsWon (arena R) t w k ↔ (fetching_wins ≡ true)
  fetch_iff = (there, back)
    where
      there : FetchKeepsWon (arena R) t w k → fetching_wins ≡ true
      there (m, h) =
          ap (λ b. b && all win reached) m ∙
          ⊎_elim (λ e. e)
          (λ e. let n = not_all win reached e in
          let s = fetch_sound R L w t k n.0 fits m n.1 in
          absurd (true≢false (sym ((after_fetch s.0 m s.1).0 (h s.0 s.1)) ∙ ap win s.2 ∙ n.2)))
          (true_or_false (all win reached))

      back : fetching_wins ≡ true → FetchKeepsWon (arena R) t w k
      back e =
          let b = and_both ((arena R).may t k) (all win reached) e in
          (b.0, λ u l. (after_fetch u b.0 l).1 (all_at win reached b.1 (fetch_complete R L w t k u fits b.0 l)))

  neither_iff : Lost (arena R) (t ∷ w) k ↔ ((read_wins || fetching_wins) ≡ false)
  unfolding win_at rule_finite
  neither_iff = lost_iff (arena R) (rule_finite R L) (t ∷ w) k fits

  not_read : read_wins ≡ false → ¬ ReadKeepsWon (arena R) t w k
  not_read e h = true≢false (sym (read_iff.0 h) ∙ e)

  not_lost : (read_wins || fetching_wins) ≡ true → ¬ Lost (arena R) (t ∷ w) k
  not_lost e l = true≢false (sym e ∙ neither_iff.0 l)

  -- advised by what the tests say
  pub advised : (r f : Bool) → read_wins ≡ r → fetching_wins ≡ f → Advised (arena R) t w k (advice_number r f)
  advised true f er ef =
      let h = read_iff.1 er in
      record {
        lost = (λ e. absurd (omega arith), λ l. absurd (not_lost (λ i. er i || ef i) l));
        reads = (λ _. h, λ _. refl);
        fetches = (λ e. absurd (omega arith), λ x. absurd (x.0 h));
      }
  advised false true er ef =
      record {
        lost = (λ e. absurd (omega arith), λ l. absurd (not_lost (λ i. er i || ef i) l));
        reads = (λ e. absurd (omega arith), λ h. absurd (not_read er h));
        fetches = (λ _. (not_read er, fetch_iff.1 ef), λ _. refl);
      }
  advised false false er ef =
      record {
        lost = (λ _. neither_iff.1 (λ i. er i || ef i), λ _. refl);
        reads = (λ e. absurd (omega arith), λ h. absurd (not_read er h));
        fetches = (λ e. absurd (omega arith), λ x. absurd (true≢false (sym (fetch_iff.0 x.1) ∙ ef)));
      }

  -- exactly one number is advised
  only_advised : (r f : Bool) → read_wins ≡ r → fetching_wins ≡ f → (a : ℕ) → Advised (arena R) t w k a → a ≡ advice_number r f
  only_advised true f er ef a v = v.reads.1 (read_iff.1 er)
  only_advised false true er ef a v = v.fetches.1 (not_read er, fetch_iff.1 ef)
  only_advised false false er ef a v = v.lost.1 (neither_iff.1 (λ i. er i || ef i))

  pub one_advised : Exactly (Advised (arena R) t w k)
  one_advised =
      record {
        value = advice_number read_wins fetching_wins;
        right = advised read_wins fetching_wins refl refl;
        only = only_advised read_wins fetching_wins refl refl;
      }

  pub advised_few : (a : ℕ) → Advised (arena R) t w k a → a < 3
  advised_few a v = subst (λ n. n < 3) (sym (only_advised read_wins fetching_wins refl refl a v)) (number_few read_wins fetching_wins)

  -- a play that is won has a move that keeps it won
  pub kept_won : Won (arena R) (t ∷ w) k → ReadKeepsWon (arena R) t w k ⊎ (¬ ReadKeepsWon (arena R) t w k × FetchKeepsWon (arena R) t w k)
  kept_won h =
      ⊎_elim (λ er. inl (read_iff.1 er))
      (λ er. ⊎_elim (λ ef. inr (not_read er, fetch_iff.1 ef))
      (λ ef. absurd (won_lost (arena R) (t ∷ w) k h (neither_iff.1 (λ i. er i || ef i)))) (true_or_false fetching_wins))
      (true_or_false read_wins)
