-- Laws of the least number of tags: there is one answer, it is even, and the empty reply is the one of no tags.
use mathlib.Core.Path.{◌≡◌, refl, sym, ◌∙◌, ap, subst}
use mathlib.Core.Bool.{Bool, true}
use mathlib.Core.Logic.{◌↔◌}
use mathlib.Core.List.{[], ◌∷◌}
use Prim.Native.Nat.{ℕ, ◌*◌, ◌<◌, ◌≤◌}
use native.Mathlib.Omega.{arith}
use lib.ListN.{length}
use Rattle.words.specs.Tag.{Word}
use Rattle.words.proofs.ForestLong.{elements, nested_long}
use Rattle.automata.specs.Target.{Target, at, run}
use Rattle.automata.proofs.TargetRun.{at_state}
use Rattle.automata.specs.TargetBody.{most_states}
use Rattle.automata.specs.Reply.{Form, Lawful}
use Rattle.effects.specs.Effect.{Least, Long, most_counted}
use Rattle.effects.specs.Effects.{Told, shortest_at, EffectsOf}
use Rattle.effects.specs.declared.Effects.{Effects}
use Rattle.effects.specs.declared.Shortest.{Shortest}
use Rattle.effects.specs.declared.Shortest.TheVariants.{Unreached, Tags, Longer}

no_tags : (w : Word) → length w ≡ 0 → w ≡ []
no_tags [] e = refl
no_tags (t ∷ w) e = absurd (omega arith)

module _ (A : Target) (F : Form) (q s : ℕ) where
  pub least_unique : (m n : ℕ) → Least A F q s m → Least A F q s n → m ≡ n
  least_unique m n l k = let a = l.fewest k.one in let b = k.fewest l.one in omega (arith, l.tags, k.tags)

  -- a number that is counted is not one that is too large
  counted_or_long : (n : ℕ) → (n ≤ most_counted) × Least A F q s n → Long A F q s → ⊥
  counted_or_long n (h, l) g = let a = g.more l.one in omega (arith, l.tags)

  -- what is told of a state is one thing
  pub told_unique : (v v' : Shortest) → Told A F q s v → Told A F q s v' → v ≡ v'
  told_unique Unreached Unreached t t' = refl
  told_unique Unreached (Tags n) t t' = absurd (t t'.1.one)
  told_unique Unreached Longer t t' = absurd (t t'.one)
  told_unique (Tags m) Unreached t t' = absurd (t' t.1.one)
  told_unique (Tags m) (Tags n) t t' = ap Tags (least_unique m n t.1 t'.1)
  told_unique (Tags m) Longer t t' = absurd (counted_or_long m t t')
  told_unique Longer Unreached t t' = absurd (t' t.one)
  told_unique Longer (Tags n) t t' = absurd (counted_or_long n t' t)
  told_unique Longer Longer t t' = refl

  -- a lawful reply has two tags for each of its elements
  pub least_even : (n : ℕ) → Least A F q s n → (k : ℕ) × (n ≡ 2 * k)
  least_even n l =
      let e = l.one in
      let nested = e.lawful.nested in
      (elements nested.forest, sym l.tags ∙ nested_long e.reply nested)

-- no tags are needed exactly where the empty reply is lawful, to stay
pub least_empty : (A : Target) (F : Form) (q s : ℕ) → Least A F q s 0 ↔ (Lawful F [] × (q ≡ s))
least_empty A F q s = (
  λ l.
      let none = no_tags l.one.reply l.tags in
      (subst (Lawful F) none l.one.lawful, at_state (subst (λ w. run A w (at q []) ≡ at s []) none l.one.reaches)),
  λ (l, e). record { one = record { reply = []; lawful = l; reaches = ap (λ x. at x []) e }; tags = refl; fewest = λ e. omega arith },
)

pub told_empty : (A : Target) (has : ℕ → Bool) (forms : ℕ → Form) (E : Effects) → EffectsOf A has forms E → (c q s : ℕ) → has c ≡ true →
    q < A.states → s < most_states → (shortest_at E c q s ≡ Tags 0) ↔ (Lawful (forms c) [] × (q ≡ s))
told_empty A has forms E e c q s t h k =
    let F = forms c in
    let here = e.exact c q s t h k in (
      λ x. (least_empty A F q s).0 (subst (Told A F q s) x here).1,
      λ l. told_unique A F q s (shortest_at E c q s) (Tags 0) here (omega arith, (least_empty A F q s).1 l),
    )
