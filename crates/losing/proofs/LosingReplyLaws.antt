-- The losing reply and the states that replies lead to: it is the first of the shortest that lead to a state from which the rest is lost.
-- Where none does, fetching keeps the play won. There is one answer.
use mathlib.Core.Path.{◌≡◌, refl, sym, ◌∙◌, ap, subst}
use mathlib.Core.Bool.{true}
use mathlib.Core.Logic.{◌↔◌, ⊎_elim}
use mathlib.Core.List.{List, [], ◌∷◌}
use Prim.Native.Nat.{ℕ, ◌<◌}
use native.Mathlib.Omega.{arith}
use native.Mathlib.Decide.{dec_lt}
use lib.ListN.{length}
use Rattle.words.specs.Exactly.{Exactly}
use Rattle.words.specs.Decide.Deciders.{some?}
use Rattle.words.specs.Tag.{closing, Word}
use Rattle.automata.specs.Target.{Target, Closed, Config, at}
use Rattle.automata.specs.Reply.{Form}
use Rattle.automata.specs.Inner.TargetRead.{over}
use Rattle.automata.proofs.TargetRun.{run_nested}
use Rattle.effects.specs.Effect.{Effect}
use Rattle.effects.specs.Inner.EffectForest.{effect_below}
use Rattle.effects.specs.Decide.Effect.{effect_list, effect_listed}
use Rattle.shortest.specs.Inner.First.{FirstInto}
use Rattle.shortest.proofs.FirstWord.{sized_nested, precedes_either}
use Rattle.shortest.proofs.FirstExists.{first_exists}
use Rattle.game.specs.Arena.{Won, Lost, FetchKeepsWon}
use Rattle.game.specs.Game.{Game}
use Rattle.game.specs.Held.{end_state, held}
use Rattle.game.proofs.Solve.{won_lost}
use Rattle.game.proofs.HeldGame.{HeldFits}
use Rattle.game.proofs.Determined.{won_or_lost}
use Rattle.losing.specs.LosingReply.{keeps_won, lost_by, Loses, LosingReply, OutcomeIs}

-- at the closing tag of an element of code c, opened in q, with the tags w left after it and ks kept
module _ (G : Game) (is_closed : Closed G.target) (c state q : ℕ) (w : Word) (ks : List ℕ) (may : G.fetchable c ≡ true)
    (hq : q < G.target.states) (fits : (s : ℕ) → s < G.target.states → HeldFits G w (at s ks)) where
  abbrev A : Target
  A = G.target

  abbrev F : Form
  F = G.forms c

  abbrev here : Config
  here = at state (q ∷ ks)

  -- what follows is lost from a state
  abbrev pub LostFrom : ℕ → Type 0
  LostFrom s = Lost (held G) w (at s ks)

  abbrev LosesHere : Word → Type 0
  LosesHere = Loses (held G) (closing c) w here

  abbrev LosingReplyHere : Word → Type 0
  LosingReplyHere = LosingReply (held G) (closing c) w here

  -- a reply that loses leads to such a state
  loses_effect : (u : Word) → LosesHere u → (s : ℕ) × LostFrom s × ((e : Effect A F q s) × (e.reply ≡ u))
  loses_effect u (_, l, lost) =
      let s = over A l.nested.forest q in
      let runs = run_nested A u l.nested q [] in
      (s, subst (λ k. LostFrom (end_state k)) runs lost, (record { reply = u; lawful = l; reaches = runs }, refl))

  effect_loses : (s : ℕ) → LostFrom s → (e : Effect A F q s) → LosesHere e.reply
  effect_loses s lost e = (may, e.lawful, subst (λ k. LostFrom (end_state k)) (sym e.reaches) lost)

  effect_state : (s : ℕ) → Effect A F q s → s < A.states
  effect_state s e = effect_below A F is_closed q s hq e

  -- a set that has, of the target's states, those from which the rest is lost
  module _ (In : ℕ → Type 0) (is : (s : ℕ) → s < A.states → In s ↔ LostFrom s) where
    pub first_losing : (u : Word) → FirstInto A F q In u → LosingReply (held G) (closing c) w here u
    first_losing u f =
        let one : Effect A F q f.state = record { reply = u; lawful = f.lawful; reaches = f.reaches } in
        record {
          loses = effect_loses f.state ((is f.state (effect_state f.state one)).0 f.in_it) one;
          shortest = λ v less x.
              let (s, lost, (e, same)) = loses_effect v x in
              let k = f.shortest s ((is s (effect_state s e)).1 lost) e in
              omega (arith, ap length same);
          first = λ v long x before.
              let (s, lost, (e, same)) = loses_effect v x in
              f.first s ((is s (effect_state s e)).1 lost) e (ap length same ∙ long) (rw same before);
        }

    pub none_loses : ((s : ℕ) → In s → ¬ Effect A F q s) → FetchKeepsWon (held G) (closing c) w here
    none_loses none = (
      may,
      λ u l.
          let s = over A l.nested.forest q in
          let runs = run_nested A u l.nested q [] in
          let e : Effect A F q s = record { reply = u; lawful = l; reaches = runs } in
          let hs = effect_state s e in
          subst (λ k. Won (held G) w (at (end_state k) ks)) (sym runs)
          (⊎_elim (λ won. won) (λ lost. absurd (none s ((is s hs).1 lost) e)) (won_or_lost G is_closed w (at s ks) (fits s hs))),
    )

  -- one of the target's states, from which the rest is lost
  abbrev LostState : ℕ → Type 0
  LostState s = (s < A.states) × LostFrom s

  lost? : (s : ℕ) → Dec (LostState s)
  lost? s =
      elim (dec_lt s A.states) [
        | no n ↦ no (λ x. n x.0)
        | yes h ↦
            ⊎_elim (λ won. no (λ x. won_lost (held G) w (at s ks) won x.1)) (λ lost. yes (h, lost))
            (won_or_lost G is_closed w (at s ks) (fits s h))
      ]

  same_lost : (s : ℕ) → s < A.states → LostState s ↔ LostFrom s
  same_lost s h = (λ x. x.1, λ lost. (h, lost))

  -- a reply that loses the play does not keep it won
  loses_not_won : (u : Word) → LosesHere u → ¬ FetchKeepsWon (held G) (closing c) w here
  loses_not_won u (_, l, lost) (_, won) = won_lost (held G) w _ (won u l) lost

  -- of two losing replies neither is shorter, and neither comes first
  losing_unique : (u v : Word) → LosingReplyHere u → LosingReplyHere v → u ≡ v
  losing_unique u v x y =
      let long : length v ≡ length u =
      elim (dec_lt (length v) (length u)) [
        | yes h ↦ absurd (x.shortest v h y.loses)
        | no m ↦ elim (dec_lt (length u) (length v)) [ yes h ↦ absurd (y.shortest u h x.loses) | no k ↦ omega arith ]
      ] in
      ⊎_elim (λ e. e)
      (⊎_elim (λ b. absurd (y.first u (sym long) x.loses b)) (λ b. absurd (x.first v long y.loses b)))
      (precedes_either (length u) u v (sized_nested u (length u) refl x.loses.1.nested)
      (sized_nested v (length u) long y.loses.1.nested))

  found_by : (u : Word) → LosingReplyHere u → Exactly (OutcomeIs (held G) (closing c) w here)
  found_by u x =
      record {
        value = lost_by u;
        right = x;
        only = λ a. elim a as (λ o. OutcomeIs (held G) (closing c) w here o → o ≡ lost_by u) [
          | keeps_won ↦ λ won. absurd (loses_not_won u x.loses won)
          | lost_by v ↦ λ y. ap lost_by (losing_unique v u y x)
        ];
      }

  -- Exactly one is so: fetching keeps the play won, or there is the losing reply, and no other.
  pub outcome_exactly : Exactly (OutcomeIs (held G) (closing c) w here)
  outcome_exactly =
      elim (some? LostState lost? (effect_list A F q)) [
        | yes (s, m, lost) ↦
            let (u, f) = first_exists A F q LostState lost? s lost ((effect_listed A F is_closed q s hq).0 m) in
            found_by u (first_losing LostState same_lost u f)
        | no none ↦
            let won = none_loses LostState same_lost (λ s lost e. none (s, (effect_listed A F is_closed q s hq).1 e, lost)) in
            record {
              value = keeps_won;
              right = won;
              only = λ a. elim a as (λ o. OutcomeIs (held G) (closing c) w here o → o ≡ keeps_won) [
                | keeps_won ↦ λ _. refl
                | lost_by v ↦ λ y. absurd (loses_not_won v y.loses won)
              ];
            }
      ]
