-- The effect through forests: a state reached by a lawful reply is reached over a forest with a run of the form. It is how effects are
-- decided, and what is proved of them.
use Rattle.std.specs.Prelude.{◌≡◌, refl, true, ◌↔◌, ℕ, ◌<◌}
use Rattle.std.proofs.Common.{sym, ◌∙◌, ap, subst}
use mathlib.Core.List.{[], Memᴰ}
use Rattle.words.specs.Tag.{Word, IsCode}
use Rattle.words.specs.Forest.{Forest, none, elem, tags, Coded}
use Rattle.automata.specs.Target.{Target, Closed, at}
use Rattle.automata.specs.Inner.TargetRead.{over}
use Rattle.automata.specs.Reply.{Form, rule, Lawful}
use Rattle.automata.specs.Inner.ForestRun.{Over, over_none, over_elem}
use Rattle.automata.proofs.ForestRun.{lawful_forest, forest_lawful}
use Rattle.automata.proofs.TargetRun.{at_state, run_forest, run_nested, over_below}
use Rattle.effects.specs.Effect.{Effect}

module _ (A : Target) (F : Form) where
  -- a forest leads the form from p to p', and the target from q to q'
  pub record Led (p q p' q' : ℕ) (f : Forest) : Type 0 where
    pub coded : Coded f
    pub ran : Over F p f p'
    pub reaches : over A f q ≡ q'

  -- some forest leads the form from p to p', and the target from q to q'
  pub record JointRun (p q p' q' : ℕ) : Type 0 where
    pub forest : Forest
    pub coded : Coded forest
    pub ran : Over F p forest p'
    pub reaches : over A forest q ≡ q'

  pub joint_none : {p q : ℕ} → JointRun p q p q
  joint_none = record { forest = none; coded = tt; ran = over_none; reaches = refl }

  -- an element, by what leads within it and what leads on after it
  pub joint_elem : {p q c a k b s z p' q' : ℕ} → IsCode c →
      Memᴰ (rule p c a k) F.openings → Memᴰ (rule b c s k) F.closings →
      JointRun a (A.open_to q c) b z → JointRun s (A.close_to z q c) p' q' → JointRun p q p' q'
  joint_elem {q = q} {c = c} h o r f g =
      record {
        forest = elem c f.forest g.forest;
        coded = (h, f.coded, g.coded);
        ran = over_elem o f.ran r g.ran;
        reaches = ap (λ y. over A g.forest (A.close_to y q c)) f.reaches ∙ g.reaches;
      }

  pub record EffectForest (q s : ℕ) : Type 0 where
    pub forest : Forest
    pub coded : Coded forest
    pub last : ℕ
    pub ran : Over F F.start forest last
    pub accepted : F.accepting last ≡ true
    pub reaches : over A forest q ≡ s

  pub effect_forest : (q s : ℕ) → Effect A F q s → EffectForest q s
  effect_forest q s e =
      let l = lawful_forest F e.lawful in
      record {
        forest = l.nested.forest;
        coded = l.nested.coded;
        last = l.last;
        ran = l.ran;
        accepted = l.accepted;
        reaches = at_state (sym (run_nested A e.reply l.nested q []) ∙ e.reaches);
      }

  pub forest_effect : {q t s : ℕ} → JointRun F.start q t s → F.accepting t ≡ true → Effect A F q s
  forest_effect {q} e a =
      record {
        reply = tags e.forest;
        lawful = forest_lawful F e.forest e.coded e.ran a;
        reaches = run_forest A e.forest q [] ∙ ap (λ x. at x []) e.reaches;
      }

  -- an effect at one of the target's states is one of them
  pub effect_below : Closed A → (q s : ℕ) → q < A.states → Effect A F q s → s < A.states
  effect_below k q s h e = let x = effect_forest q s e in subst (λ y. y < A.states) x.reaches (over_below A k x.forest q h)

  -- A form has an effect at a state exactly when it has a lawful reply: every well-nested word leads somewhere.
  pub some_effect : (q : ℕ) → ((s : ℕ) × Effect A F q s) ↔ ((w : Word) × Lawful F w)
  some_effect q = (
    λ (s, e). (e.reply, e.lawful),
    λ (w, l). (over A l.nested.forest q, record { reply = w; lawful = l; reaches = run_nested A w l.nested q [] }),
  )
