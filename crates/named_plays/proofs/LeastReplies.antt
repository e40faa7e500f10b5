-- The least number of tags of a reply, for a form whose replies do what its samples do: 0 where the empty reply is lawful and leads there,
-- and else 2 where a sample does, for an element has two tags.
use mathlib.Core.Path.{◌≡◌, refl, sym, ◌∙◌, ap, ap₂}
use mathlib.Core.Bool.{Bool, true, false, cond, ◌&&◌, ◌||◌, false≢true, true≢false}
use mathlib.Core.Logic.{◌↔◌, inl, inr, ⊎_elim}
use mathlib.Core.List.Memᴰ
use mathlib.Core.List.{List, [], ◌∷◌, Memᴰ}
use Prim.Native.Nat.{ℕ, ◌<◌, ◌≤◌}
use native.Mathlib.Omega.{arith}
use borrow.Author.Tests.{eqb-true, eq-eqb}
use lib.Dec.{eqb}
use lib.ListN.{length}
use Rattle.words.specs.Forest.{Forest, none, elem, tags, Coded}
use Rattle.words.proofs.ForestLong.{elements, tags_long, nested_long}
use Rattle.words.proofs.Truth.{and_both, or_either}
use Rattle.automata.specs.Target.{Target, Closed, at}
use Rattle.automata.specs.Inner.TargetRead.{over}
use Rattle.automata.proofs.TargetRun.{at_state, run_forest, run_nested}
use Rattle.automata.specs.Reply.{Form}
use Rattle.automata.specs.Inner.ForestRun.{Over, over_none}
use Rattle.automata.proofs.ForestRun.{over_run, forest_lawful}
use Rattle.effects.specs.Effect.{Effect, Least}
use Rattle.effects.specs.Effects.{Told}
use Rattle.effects.specs.declared.Shortest.{Shortest}
use Rattle.effects.specs.declared.Shortest.TheVariants.{Unreached, Tags}
use Rattle.named_plays.proofs.Samples.{Sampled, effect_of, effect_answer, effect_exact}

-- whether a number is in a list
abbrev within : ℕ → List ℕ → Bool
within s [] = false
within s (x ∷ l) = eqb s x || within s l

within_list : (s : ℕ) (l : List ℕ) → (within s l ≡ true) ↔ Memᴰ s l
within_list s [] = (λ e. absurd (false≢true e), λ m. absurd (Memᴰ.not-nil m))
within_list s (x ∷ l) = (
  λ e.
      ⊎_elim (λ h. Memᴰ.head (eqb-true s x h)) (λ h. Memᴰ.tail ((within_list s l).0 h)) ((or_either (eqb s x) (within s l)).0 e),
  λ m.
      (or_either (eqb s x) (within s l)).1
      (⊎_elim (λ h. inl (eq-eqb s x h)) (λ h. inr ((within_list s l).1 h)) (Memᴰ.cases_cons m)),
)

module _ (A : Target) (F : Form) where
  -- whether the empty reply is lawful and leads from q to s
  abbrev by_nothing : ℕ → ℕ → Bool
  by_nothing q s = F.accepting F.start && eqb q s

  -- what the samples say of s at q
  abbrev pub least_shown : ℕ → ℕ → Shortest
  least_shown q s = cond (by_nothing q s) (Tags 0) (cond (within s (effect_of A F q)) (Tags 2) Unreached)

  -- the word of a forest is the shortest reply, if no other has fewer tags
  least_forest : {q s t : ℕ} (f : Forest) → Coded f → Over F F.start f t → F.accepting t ≡ true → over A f q ≡ s → (n : ℕ) →
      length (tags f) ≡ n → ((e : Effect A F q s) → n ≤ length e.reply) → Least A F q s n
  least_forest {q} f c o a r n long fewest =
      let there = run_forest A f q [] ∙ ap (λ x. at x []) r in
      record { one = record { reply = tags f; lawful = forest_lawful F f c o a; reaches = there }; tags = long; fewest = fewest }

  least_nothing : (q s : ℕ) → by_nothing q s ≡ true → Least A F q s 0
  least_nothing q s e =
      let (a, h) = and_both (F.accepting F.start) (eqb q s) e in
      least_forest none tt over_none a (eqb-true q s h) 0 refl (λ x. omega arith)

  -- where the empty reply does not lead to s, a reply that does has an element, and so two tags
  some_element : (q s : ℕ) → by_nothing q s ≡ false → (f : Forest) {t : ℕ} → Over F F.start f t → F.accepting t ≡ true →
      over A f q ≡ s → 1 ≤ elements f
  some_element q s e none over_none a r = absurd (true≢false (sym (ap₂ ◌&&◌ a (eq-eqb q s r)) ∙ e))
  some_element q s e (elem c f g) o a r = omega arith

  two_tags : (q s : ℕ) → by_nothing q s ≡ false → (y : Effect A F q s) → 2 ≤ length y.reply
  two_tags q s e y =
      let n = y.lawful.nested in
      let o = over_run F n.forest n.spells y.lawful.ran in
      let r = at_state (sym (run_nested A y.reply n q []) ∙ y.reaches) in
      let l = some_element q s e n.forest o y.lawful.accepted r in
      let long = nested_long y.reply n in
      omega (arith, l, long)

  least_two : (q s : ℕ) → by_nothing q s ≡ false → Memᴰ s (effect_of A F q) → Least A F q s 2
  least_two q s e m =
      let x = effect_answer A F q s m in
      let l = some_element q s e x.forest x.ran x.accepted x.reaches in
      let long = tags_long x.forest in
      let short = x.short in
      least_forest x.forest x.coded x.ran x.accepted x.reaches 2 (omega arith) (two_tags q s e)

  -- what is computed from the samples is so
  pub listed_told : Closed A → Sampled A F → (q s : ℕ) → q < A.states → Told A F q s (least_shown q s)
  listed_told k all-sampled q s h = by_tests (by_nothing q s) (within s (effect_of A F q)) refl refl
    where
      by_tests : (a b : Bool) → by_nothing q s ≡ a → within s (effect_of A F q) ≡ b →
          Told A F q s (cond a (Tags 0) (cond b (Tags 2) Unreached))
      by_tests true b e d = (omega arith, least_nothing q s e)
      by_tests false true e d = (omega arith, least_two q s e ((within_list s (effect_of A F q)).0 d))
      by_tests false false e d = λ y.
          false≢true (sym d ∙ (within_list s (effect_of A F q)).1 ((effect_exact A F k all-sampled q s h).1 y))
