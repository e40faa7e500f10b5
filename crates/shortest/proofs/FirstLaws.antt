-- From the first forest that is wanted to the first of the shortest replies.
use mathlib.Core.Path.{◌≡◌, refl, sym, ◌∙◌, ap}
use mathlib.Core.Bool.{false, Bool-discrete}
use mathlib.Core.Logic.{⊎_elim}
use mathlib.Core.List.{List, []}
use Prim.Native.Nat.{ℕ, ◌*◌, ◌<◌, ◌≤◌}
use native.Mathlib.Omega.{arith}
use lib.ListN.{length, replicate, length-replicate}
use Rattle.words.specs.Tag.{Word}
use Rattle.words.specs.Forest.{Forest, tags}
use Rattle.words.proofs.ForestLong.{elements, tags_long, nested_long}
use Rattle.automata.specs.Bits.{bit}
use Rattle.automata.specs.Target.{Target, Closed, at}
use Rattle.automata.specs.TargetBody.{most_states, target_of, ValidTarget}
use Rattle.automata.specs.Reply.{Form}
use Rattle.automata.specs.ReplyBody.{form_of, ValidReply}
use Rattle.automata.specs.Inner.FormState.{IsFormState}
use Rattle.automata.specs.Inner.MaskTable.{puts}
use Rattle.automata.proofs.ForestRun.{lawful_forest, forest_lawful}
use Rattle.automata.proofs.MaskTableLaws.{no_row, zeros_empty}
use Rattle.automata.proofs.TargetRun.{at_state, run_forest, run_nested}
use Rattle.automata.proofs.TargetTables.{target_closed, few_target_states}
use Rattle.replies.specs.Inner.Transitions.{transition_count, TransitionsOf}
use Rattle.replies.proofs.RulesPut.{ruling, rule_count}
use Rattle.replies.proofs.TransitionLaws.{compiled, bare_zeros}
use Rattle.replies.proofs.LawfulAnswer.{few_states}
use Rattle.replies.proofs.LawfulPass.{run_below}
use Rattle.effects.specs.Effect.{Effect, most_counted}
use Rattle.effects.specs.Inner.EffectForest.{Led, effect_below}
use Rattle.relaxation.specs.Inner.Pairs.{pair_count, pair_of, form_part, target_part}
use Rattle.relaxation.specs.Inner.PairSet.{mask_index, Member, Gains}
use Rattle.relaxation.specs.Inner.Lengths.{length_of, length_cap, capped, no_length}
use Rattle.lengths.specs.Inner.FormLengths.{FormLengths}
use Rattle.relaxation.proofs.PairLaws.{form_of_lem, target_of_lem, pair_below}
use Rattle.effects.proofs.EffectReach.{run_effect}
use Rattle.shortest.specs.Inner.First.{Outside, FirstInto}
use Rattle.shortest.specs.Inner.Wanted.{goal_count, FormTables, Wanted, FirstWanted, Sought}
use Rattle.shortest.specs.Inner.Spelled.{FirstSpelled, EndsOutside, LeastOutside, FirstGoal, FirstWritten}
use Rattle.shortest.specs.declared.spell.Spelled.{Spelled}
use Rattle.shortest.proofs.OrderLaws.{precedes_forest}
use Rattle.shortest.proofs.LengthLaws.{led_length}
use Rattle.shortest.proofs.FirstExists.{first_exists}

module _ (A : Target) (F : Form) (links rules lengths : List ℕ) (closed : Closed A) (few : A.states ≤ most_states)
    (t : FormTables A F links rules lengths) (q set k : ℕ) (hq : q < A.states) (begin : IsFormState F.start)
    (least : LeastOutside F lengths q set k) where
  -- the forest of a lawful reply that leads out of the set: it has at least k elements
  record OutsideForest (u : Word) : Type 0 where
    forest : Forest
    spells : tags forest ≡ u
    size : length u ≡ 2 * elements forest
    to : ℕ
    to_pair : to < pair_count
    ends : EndsOutside F.accepting set to
    led : Led A F F.start q (form_part to) (target_part to) forest
    least_to : k ≤ length_of lengths (pair_of F.start q) to
    most_to : length_of lengths (pair_of F.start q) to ≤ capped (elements forest)

  outside_forest : (s : ℕ) → Outside set s → (e : Effect A F q s) → OutsideForest e.reply
  outside_forest s o e =
      let l = lawful_forest F e.lawful in
      let n = l.nested in
      let p = l.last in
      let hp = run_below F t.few begin l.ran in
      let below = effect_below A F closed q s hq e in
      let hs : s < most_states = omega arith in
      let goes : Led A F F.start q p s n.forest =
      record { coded = n.coded; ran = l.ran; reaches = at_state (sym (run_nested A e.reply n q []) ∙ e.reaches) } in
      let z = pair_below p s hp hs in
      let ends : EndsOutside F.accepting set (pair_of p s) = rw (form_of_lem p s hs, target_of_lem p s hs) (l.accepted, o) in
      record {
        forest = n.forest;
        spells = n.spells;
        size = nested_long e.reply n;
        to = pair_of p s;
        to_pair = z;
        ends = ends;
        led = rw (form_of_lem p s hs, target_of_lem p s hs) goes;
        least_to = least.below (pair_of p s) z ends;
        most_to = led_length A F links rules lengths closed few t F.start q p s n.forest begin hq goes;
      }

  -- a lawful reply that leads out of the set, with the least number of elements
  record OutsideEffect : Type 0 where
    state : ℕ
    in_it : Outside set state
    effect : Effect A F q state
    elements_of : ℕ
    size : length effect.reply ≡ 2 * elements_of
    is : capped elements_of ≡ k

  outside_effect : k < no_length → OutsideEffect
  outside_effect h =
      ⊎_elim (λ e. absurd (omega arith))
      (λ (z, hz, ends, e).
      let small : q < most_states = omega arith in
      let x = t.least.sound (pair_of F.start q) z (pair_below F.start q begin small) hz (rw e h) in
      let r = run_effect A F links t.links_of t.few begin q (target_part z) x.1.0
      (record {
        last = form_part z;
        last_below = omega arith;
        accepted = ends.0;
        leads = rw (form_of_lem F.start q small, target_of_lem F.start q small) at x.1.2;
      }) in
      record {
        state = target_part z;
        in_it = ends.1;
        effect = r.effect;
        elements_of = x.1.0;
        size = r.long;
        is = x.1.1 ∙ e;
      })
      least.from

  -- a first one, and the forest of one that is first
  some_first : k < no_length → (u : Word) × FirstInto A F q (Outside set) u
  some_first h =
      let x = outside_effect h in
      first_exists A F q (Outside set) (λ s. Bool-discrete (bit set s) false) x.state x.in_it x.effect

  first_forest : {u : Word} → FirstInto A F q (Outside set) u → OutsideForest u
  first_forest {u} i =
      outside_forest i.state i.in_it (record { reply = u; lawful = i.lawful; reaches = i.reaches })

  -- no lawful reply leads out of the set
  pub none_outside : no_length ≤ k → (s : ℕ) → Outside set s → ¬ Effect A F q s
  none_outside h s o e = let x = outside_forest s o e in omega arith

  -- some do, but all are too long to be counted
  pub longer_outside : length_cap ≤ k → k < no_length → (u : Word) × FirstInto A F q (Outside set) u × (most_counted < length u)
  longer_outside h l = let (u, i) = some_first l in let x = first_forest i in (u, i, omega arith)

  -- a least length that is one is counted, or stands for all that are not
  pub least_counted : k < no_length → k ≤ length_cap
  least_counted h = let x = outside_effect h in omega arith

  -- where they are counted, the first has two tags for each element
  pub shorter_outside : k < length_cap → (u : Word) × FirstInto A F q (Outside set) u × (length u ≡ 2 * k)
  shorter_outside h =
      let b : k < no_length = omega arith in
      let (u, i) = some_first b in
      let x = first_forest i in
      let y = outside_effect b in
      let most = i.shortest y.state y.in_it y.effect in
      (u, i, omega arith)

  -- the goals of those that are shortest
  module _ (short : k < length_cap) (goals : List ℕ)
      (gains : Gains (replicate goal_count 0) goals (FirstGoal F lengths q set k)) where
    -- every goal is one of these
    goal_is : (p z : ℕ) → IsFormState p → z < pair_count → Member goals p z → FirstGoal F lengths q set k p z
    goal_is p z hp hz m =
        let none = no_row (replicate goal_count 0) (zeros_empty goal_count) (mask_index p (form_part z)) (target_part z) in
        ⊎_elim (λ n. absurd (none n)) (λ g. g) (gains.either p z (omega arith) hz m)

    goal_length : (p z : ℕ) → IsFormState p → z < pair_count → Member goals p z → length_of lengths (pair_of p q) z ≡ k
    goal_length p z hp hz m = let (e, o, l) = goal_is p z hp hz m in rw e l

    pub first_sought : (room : ℕ) → 2 * k ≤ room → Sought lengths goals q 0 room
    first_sought room h =
        record {
          long = gains.long ∙ length-replicate {A = ℕ} goal_count 0;
          some =
              ⊎_elim (λ e. absurd (omega arith))
              (λ (z, hz, ends, e). (F.start, z, begin, hz, gains.has_it F.start z (omega arith) hz (refl, ends, e)))
              least.from;
          counted = λ p z hp hz m. let e = goal_length p z hp hz m in omega arith;
          within = λ p z hp hz m. let e = goal_length p z hp hz m in omega arith;
        }

    -- a forest of k elements that leads out of the set is wanted
    outside_wanted : {u : Word} (x : OutsideForest u) → elements x.forest ≡ k → Wanted A F lengths goals q x.forest
    outside_wanted x e =
        record {
          from = F.start;
          to = x.to;
          from_state = begin;
          to_pair = x.to_pair;
          goal = gains.has_it F.start x.to (omega arith) x.to_pair (refl, x.ends, omega arith);
          led = x.led;
          size = omega arith;
        }

    pub first_outside : (f : Forest) → FirstWanted A F lengths goals q f → FirstInto A F q (Outside set) (tags f) × (elements f ≡ k)
    first_outside f w =
        let v = w.wanted in
        let (e, ends, _) = goal_is v.from v.to v.from_state v.to_pair v.goal in
        let size = v.size ∙ goal_length v.from v.to v.from_state v.to_pair v.goal in
        let led : Led A F F.start q (form_part v.to) (target_part v.to) f = rw e at v.led in
        let long = tags_long f in (
          record {
            state = target_part v.to;
            in_it = ends.1;
            lawful = forest_lawful F f led.coded led.ran ends.0;
            reaches = run_forest A f q [] ∙ ap (λ x. at x []) led.reaches;
            shortest = λ s o d. let x = outside_forest s o d in omega arith;
            first = λ s o d same before.
                let x = outside_forest s o d in
                let equal : elements x.forest ≡ elements f = omega arith in
                w.first x.forest (outside_wanted x (equal ∙ size))
                (precedes_forest x.forest f x.led.coded led.coded equal (rw x.spells before));
          },
          size,
        )

-- where a valid body has its form start
pub start_state : (reply : List ℕ) → ValidReply reply → IsFormState (form_of reply).start
unfolding form_of
start_state reply v = omega arith

-- the rules of a body have a table, whether or not the code makes it
body_rules : (reply : List ℕ) → ValidReply reply → (rules : List ℕ) × TransitionsOf (form_of reply) 0 rules
body_rules reply v =
    let empty : List ℕ = replicate transition_count 0 in (
      puts (ruling reply 0) (rule_count reply) empty,
      (compiled reply v 0 empty (omega (arith, length-replicate {A = ℕ} transition_count 0)) (bare_zeros transition_count 0) refl).is,
    )

-- the answers by the least length k
pub record Answers (A : Target) (F : Form) (q set k : ℕ) : Type 0 where
  pub none : no_length ≤ k → (s : ℕ) → Outside set s → ¬ Effect A F q s
  pub counted : k < no_length → k ≤ length_cap
  pub longer : length_cap ≤ k → k < no_length → (u : Word) × FirstInto A F q (Outside set) u × (most_counted < length u)
  pub shorter : k < length_cap → (u : Word) × FirstInto A F q (Outside set) u × (length u ≡ 2 * k)

-- by bodies that are valid, with the links and the lengths of the form
module _ (target reply links lengths : List ℕ) (vt : ValidTarget target) (vr : ValidReply reply)
    (d : FormLengths (target_of target) (form_of reply) links lengths) where
  pub body_tables : (rules : List ℕ) → TransitionsOf (form_of reply) 0 rules →
      FormTables (target_of target) (form_of reply) links rules lengths
  body_tables rules r = record { few = few_states reply vr; links_of = d.links_of; rules_are = r; least = d.least }

  module _ (q set k : ℕ) (hq : q < (target_of target).states) (least : LeastOutside (form_of reply) lengths q set k) where
    pub answers : Answers (target_of target) (form_of reply) q set k
    answers =
        let A = target_of target in
        let F = form_of reply in
        let (rules, r) = body_rules reply vr in
        let closed = target_closed target vt in
        let few = few_target_states target vt in
        let begin = start_state reply vr in
        let t = body_tables rules r in
        record {
          none = none_outside A F links rules lengths closed few t q set k hq begin least;
          counted = least_counted A F links rules lengths closed few t q set k hq begin least;
          longer = longer_outside A F links rules lengths closed few t q set k hq begin least;
          shorter = shorter_outside A F links rules lengths closed few t q set k hq begin least;
        }

    module _ (short : k < length_cap) (rules : List ℕ) (r : TransitionsOf (form_of reply) 0 rules) (goals : List ℕ)
        (gains : Gains (replicate goal_count 0) goals (FirstGoal (form_of reply) lengths q set k)) where
      pub body_sought : (room : ℕ) → 2 * k ≤ room → Sought lengths goals q 0 room
      body_sought =
          first_sought (target_of target) (form_of reply) links rules lengths (target_closed target vt) (few_target_states target vt)
          (body_tables rules r) q set k hq (start_state reply vr) least short goals gains

      -- the first forest that is wanted was written
      pub body_written : (s : Spelled) (old new : List ℕ) → FirstSpelled (target_of target) (form_of reply) lengths goals q 0 s old new →
          FirstWritten (target_of target) (form_of reply) q set k old new
      body_written s old new (f, first, spelled) =
          let (i, e) = first_outside (target_of target) (form_of reply) links rules lengths (target_closed target vt)
          (few_target_states target vt) (body_tables rules r) q set k hq (start_state reply vr) least short goals gains f first in
          record { reply = tags f; first = i; tags = tags_long f ∙ ap (λ n. 2 * n) e; bytes = spelled.bytes }
