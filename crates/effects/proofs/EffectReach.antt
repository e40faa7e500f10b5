-- The two runs side by side lead somewhere exactly when a forest leads them there, with as many elements; and a forest spells two tags for
-- each. So the lawful replies that take the target from q to s, with their numbers of tags, are where the runs lead from the form's start.
use mathlib.Core.Path.{◌≡◌, refl, sym, ◌∙◌, ap}
use mathlib.Core.Bool.{true}
use mathlib.Core.List.{List, []}
use Prim.Native.Nat.{ℕ, suc, ◌+◌, ◌*◌}
use lib.ListN.{length}
use Rattle.words.specs.Forest.{Forest, none, elem, tags, Coded}
use Rattle.words.proofs.ForestLong.{elements, tags_long}
use Rattle.automata.specs.Target.{Target, at}
use Rattle.automata.specs.Inner.TargetRead.{over}
use Rattle.automata.specs.Reply.{Form}
use Rattle.automata.specs.Inner.FormState.{IsFormState}
use Rattle.automata.specs.Inner.ForestRun.{Over, over_none, over_elem}
use Rattle.automata.proofs.ForestRun.{lawful_forest, forest_lawful}
use Rattle.automata.proofs.TargetRun.{at_state, run_forest, run_nested}
use Rattle.replies.specs.Inner.Links.{LinksOf}
use Rattle.replies.specs.Inner.Relation.{FewStates}
use Rattle.replies.proofs.LawfulPass.{run_below}
use Rattle.effects.specs.Effect.{Effect}
use Rattle.effects.specs.Inner.EffectForest.{Led}
use Rattle.lengths.specs.Inner.Leads.{Leads, leads_none, leads_elem}

module _ (A : Target) (F : Form) (links : List ℕ) (l : LinksOf F links) (few : FewStates F) where
  -- where the runs lead together over n elements, a forest of so many leads them
  pub leads_forest : {p q r s n : ℕ} → IsFormState p → Leads A links p q r s n → (f : Forest) × Led A F p q r s f × (elements f ≡ n)
  leads_forest h leads_none = (none, record { coded = tt; ran = over_none; reaches = refl }, refl)
  leads_forest {p} {q} h (leads_elem {c = c} {a = a} {b = b} {s = s} {m = m} hc ha hb hs k i o) =
      let x = (l.exact c p a b s hc h ha hb).0 k in
      let (f, lf, ef) = leads_forest ha i in
      let (g, lg, eg) = leads_forest hs o in (
        elem c f g,
        record {
          coded = (hc, lf.coded, lg.coded);
          ran = over_elem x.opened lf.ran x.closed lg.ran;
          reaches = ap (λ y. over A g (A.close_to y q c)) lf.reaches ∙ lg.reaches;
        },
        ap suc (ap (λ y. y + elements g) ef ∙ ap (λ y. m + y) eg),
      )

  -- a forest leads the two runs together
  pub forest_leads : {p r : ℕ} {f : Forest} → Coded f → IsFormState p → Over F p f r → (q : ℕ) →
      Leads A links p q r (over A f q) (elements f)
  forest_leads cf h over_none q = leads_none
  forest_leads {p} e h (over_elem {c = c} {p = a} {k = k} {r = b} {s = s} {f = f} x i y o) q =
      let (hc, cf, cg) = e in
      let ha = (few.opening_below x).0 in
      let hb = run_below F few ha i in
      let hs = few.closing_below y in
      leads_elem hc ha hb hs ((l.exact c p a b s hc h ha hb).1 (record { kept = k; opened = x; closed = y }))
      (forest_leads cf ha i (A.open_to q c))
      (forest_leads cg hs o (A.close_to (over A f (A.open_to q c)) q c))

  -- the runs lead from the form's start and q to s over n elements, with the form's state accepted
  pub record AcceptedRun (q s n : ℕ) : Type 0 where
    pub last : ℕ
    pub last_below : IsFormState last
    pub accepted : F.accepting last ≡ true
    pub leads : Leads A links F.start q last s n

  -- a lawful reply of m tags that takes the target from q to s
  pub record EffectOf (q s m : ℕ) : Type 0 where
    pub effect : Effect A F q s
    pub long : length effect.reply ≡ m

  module _ (begin : IsFormState F.start) where
    pub run_effect : (q s n : ℕ) → AcceptedRun q s n → EffectOf q s (2 * n)
    run_effect q s n a =
        let (f, led, size) = leads_forest begin a.leads in
        record {
          effect = record {
            reply = tags f;
            lawful = forest_lawful F f led.coded led.ran a.accepted;
            reaches = run_forest A f q [] ∙ ap (λ x. at x []) led.reaches;
          };
          long = tags_long f ∙ ap (λ y. 2 * y) size;
        }

    pub effect_run : (q s : ℕ) (e : Effect A F q s) → (n : ℕ) × (length e.reply ≡ 2 * n) × AcceptedRun q s n
    effect_run q s e =
        let f = lawful_forest F e.lawful in
        let to = at_state (sym (run_nested A e.reply f.nested q []) ∙ e.reaches) in (
          elements f.nested.forest,
          sym (ap length f.nested.spells) ∙ tags_long f.nested.forest,
          record {
            last = f.last;
            last_below = run_below F few begin f.ran;
            accepted = f.accepted;
            leads = rw to at (forest_leads f.nested.coded begin f.ran q);
          },
        )
