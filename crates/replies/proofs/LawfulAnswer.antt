-- From the runs over a word to its lawfulness: a run leads from the start to a state that accepts.
use mathlib.Core.Path.{◌≡◌, sym, ◌∙◌, ap}
use mathlib.Core.Bool.{Bool, true, decide}
use mathlib.Core.Logic.{◌↔◌}
use mathlib.Core.List.{List}
use Prim.Native.Nat.{ℕ}
use native.Mathlib.Omega.{arith}
use Rattle.words.specs.Tag.{Word}
use Rattle.words.specs.Forest.{WellNested}
use Rattle.words.proofs.Decided.{decided_iff}
use Rattle.words.proofs.ListLaws.{tabulated_index}
use Rattle.automata.specs.Bits.{bit}
use Rattle.automata.specs.Reply.{Form}
use Rattle.automata.specs.ReplyBody.{opening_count, closing_count, form_of, ValidReply}
use Rattle.automata.specs.Inner.FormState.{IsFormState}
use Rattle.automata.proofs.ForestRun.{over_run}
use Rattle.automata.specs.Inner.Rules.{opening_rule, closing_rule}
use Rattle.automata.proofs.Lawful.{lawful?}
use Rattle.replies.specs.Inner.Relation.{Related, Relates, FewStates}
use Rattle.replies.proofs.LawfulPass.{run_below}

module _ (b : List ℕ) (v : ValidReply b) where
  pub few_states : FewStates (form_of b)
  unfolding form_of
  few_states =
      let few = v.few_states in
      record {
        opening_below = λ {x} m.
            let (i, h, e) = (tabulated_index (opening_rule b) (opening_count b) x).0 m in
            let o = v.opening_rules i h in
            (omega (arith, ap (λ y. y.next) e), omega (arith, ap (λ y. y.kept) e));
        closing_below = λ {x} m.
            let (j, h, e) = (tabulated_index (closing_rule b) (closing_count b) x).0 m in
            let d = v.closing_rules j h in
            omega (arith, ap (λ y. y.next) e);
      }

module _ (F : Form) (few : FewStates F) (start_below : IsFormState F.start) (w : Word) (n : WellNested w) where
  pub lawful_by_relation : (m mask : ℕ) → Relates F w m → ((p : ℕ) → bit mask p ≡ F.accepting p) → (r : Bool) →
      (r ≡ true) ↔ ((t : ℕ) × IsFormState t × Related m F.start t × (bit mask t ≡ true)) → r ≡ decide (lawful? F w)
  lawful_by_relation m mask runs accepts r found =
      decided_iff (lawful? F w) r (
        λ e.
            let (t, h, i, a) = found.0 e in
            record { nested = n; last = t; ran = (runs.exact F.start t start_below h).0 i; accepted = sym (accepts t) ∙ a },
        λ l.
            let h = run_below F few start_below (over_run F n.forest n.spells l.ran) in
            found.1 (l.last, h, (runs.exact F.start l.last start_below h).1 l.ran, accepts l.last ∙ l.accepted),
      )
