-- Lawfulness of a word is decidable. A reader of the contracts needs only the type of `lawful?` at the end. The rest is how the proof is
-- found: over a forest, the rules that may begin an element and those that may end it are tried one after the other.
use Rattle.std.specs.Prelude.{◌≡◌, refl, true, ℕ}
use Rattle.std.proofs.Common.{sym, subst}
use Rattle.std.proofs.Math.Bool.{Bool-discrete}
use mathlib.Core.List.{Memᴰ}
use Rattle.std.proofs.Math.Decide.{ℕ_discrete, map_dec}
use Rattle.words.specs.Decide.Deciders.{both?, some?}
use Rattle.words.specs.Tag.{Word}
use Rattle.words.specs.Forest.{Forest, none, elem}
use Rattle.words.specs.Decide.Words.{well_nested?}
use Rattle.automata.specs.declared.reply.FormRule.{FormRule}
use Rattle.automata.specs.Reply.{rule, Form, Lawful}
use Rattle.automata.specs.Inner.ForestRun.{same_rule, Over, over_none, over_elem}
use Rattle.automata.proofs.ForestRun.{stays, run_over, over_run}

-- The rule begins an element of code c in state q, and the states it leads to and keeps have a property.
abbrev Begins : ℕ → ℕ → (ℕ → ℕ → Type 0) → FormRule → Type 0
Begins q c P x = (x.state ≡ q) × ((x.code ≡ c) × P x.next x.kept)

begins? : (q c : ℕ) (P : ℕ → ℕ → Type 0) → ((p k : ℕ) → Dec (P p k)) → (x : FormRule) → Dec (Begins q c P x)
begins? q c P p? x = both? (ℕ_discrete x.state q) (both? (ℕ_discrete x.code c) (p? x.next x.kept))

-- The rule ends one in state r, with k kept, and the state it leads to has a property.
abbrev Finishes : ℕ → ℕ → ℕ → (ℕ → Type 0) → FormRule → Type 0
Finishes r k c P x = (x.state ≡ r) × ((x.kept ≡ k) × ((x.code ≡ c) × P x.next))

finishes? : (r k c : ℕ) (P : ℕ → Type 0) → ((s : ℕ) → Dec (P s)) → (x : FormRule) → Dec (Finishes r k c P x)
finishes? r k c P p? x = both? (ℕ_discrete x.state r) (both? (ℕ_discrete x.kept k) (both? (ℕ_discrete x.code c) (p? x.next)))

module _ (F : Form) where
  -- some run over the forest ends in a state with a property
  abbrev EndsIn : Forest → (ℕ → Type 0) → ℕ → Type 0
  EndsIn f P q = (t : ℕ) × Over F q f t × P t

  abbrev ClosedBy : ℕ → (ℕ → Type 0) → ℕ → ℕ → Type 0
  ClosedBy c P k r = (x : FormRule) × Memᴰ x F.closings × Finishes r k c P x

  abbrev OpenedBy : ℕ → Forest → (ℕ → Type 0) → ℕ → Type 0
  OpenedBy c f P q = (x : FormRule) × Memᴰ x F.openings × Begins q c (λ p k. EndsIn f (ClosedBy c P k) p) x

  there : (c : ℕ) (f g : Forest) (P : ℕ → Type 0) (q : ℕ) → OpenedBy c f (EndsIn g P) q → EndsIn (elem c f g) P q
  there c f g P q (x, a, (e, (e', (r, o, (y, b, (d, (d', (d'', (t, o', h))))))))) =
      let a' : Memᴰ (rule q c x.next x.kept) F.openings = mathlib.Core.List.Memᴰ.cast (same_rule (sym e) (sym e') refl refl) a in
      let b' : Memᴰ (rule r c y.next x.kept) F.closings = mathlib.Core.List.Memᴰ.cast (same_rule (sym d) (sym d'') refl (sym d')) b in
      (t, over_elem a' o b' o', h)

  here : (c : ℕ) (f g : Forest) (P : ℕ → Type 0) (q : ℕ) → EndsIn (elem c f g) P q → OpenedBy c f (EndsIn g P) q
  here c f g P q (t, over_elem {p = p} {k = k} {r = r} {s = s} a o b o', h) =
      (rule q c p k, a, (refl, (refl, (r, o, (rule r c s k, b, (refl, (refl, (refl, (t, o', h)))))))))

  ends? : (f : Forest) (P : ℕ → Type 0) → ((t : ℕ) → Dec (P t)) → (q : ℕ) → Dec (EndsIn f P q)
  ends? none P p? q = map_dec (λ h. (q, over_none, h)) (λ (t, o, h). subst P (sym (stays F o)) h) (p? q)
  ends? (elem c f g) P p? q =
      map_dec (there c f g P q) (here c f g P q)
      (some? _
      (begins? q c _ (λ p k. ends? f (ClosedBy c (EndsIn g P) k)
      (λ r. some? _ (finishes? r k c (EndsIn g P) (ends? g P p?)) F.closings) p))
      F.openings)

pub lawful? : (F : Form) (w : Word) → Dec (Lawful F w)
lawful? F w =
    elim (well_nested? w) [
      | no n ↦ no (λ l. n l.nested)
      | yes n ↦ map_dec
          (λ (t, o, a). record { nested = n; last = t; ran = run_over F n.forest n.spells o; accepted = a })
          (λ l. (l.last, over_run F n.forest n.spells l.ran, l.accepted))
          (ends? F n.forest (λ t. F.accepting t ≡ true) (λ t. Bool-discrete (F.accepting t) true) F.start)
    ]
