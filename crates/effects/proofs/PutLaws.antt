-- From the least lengths to the numbers of a form: what each number tells is so.
use mathlib.Core.Path.{◌≡◌, sym, ◌∙◌, subst}
use mathlib.Core.Logic.{⊎_elim}
use mathlib.Core.List.{List}
use Prim.Native.Nat.{ℕ, ◌/◌, ◌%◌, ◌<◌, ◌≤◌}
use native.Mathlib.Omega.{arith}
use native.Mathlib.Decide.{dec_lt}
use lib.ListN.{get_or}
use Rattle.automata.specs.Bits.{bit}
use Rattle.automata.specs.Target.{Target}
use Rattle.automata.specs.TargetBody.{most_states}
use Rattle.automata.specs.Reply.{Form}
use Rattle.automata.specs.ReplyBody.{most_reply_states}
use Rattle.automata.specs.Inner.FormState.{IsFormState}
use Rattle.replies.specs.Inner.Links.{LinksOf}
use Rattle.replies.specs.Inner.Relation.{FewStates}
use Rattle.effects.specs.Effects.{Told, told, form_numbers, long_number}
use Rattle.relaxation.specs.Inner.Pairs.{pair_of}
use Rattle.relaxation.specs.Inner.Lengths.{length_cap, capped, no_length}
use Rattle.lengths.specs.Inner.Search.{LeastLengths}
use Rattle.lengths.specs.Inner.FormLengths.{LeastOver}
use Rattle.effects.specs.Inner.Numbers.{NumberOf, NumbersWritten, NumbersPut}
use Rattle.relaxation.proofs.PairLaws.{form_of_lem, target_of_lem}
use Rattle.effects.proofs.ToldLaws.{told_none, told_tags, told_longer}
use Rattle.effects.proofs.EffectReach.{AcceptedRun, run_effect, effect_run}

module _ (A : Target) (F : Form) (links : List ℕ) (l : LinksOf F links) (few : FewStates F) (begin : IsFormState F.start)
    (lengths : List ℕ) (d : LeastLengths A links lengths) (last : ℕ) (accepts : (p : ℕ) → bit last p ≡ F.accepting p) where
  module _ (q s k : ℕ) (hq : q < most_states) (hs : s < most_states)
      (o : LeastOver lengths (pair_of F.start q) last s most_reply_states k) where
    -- no accepted run has fewer elements than the least length
    least_run : (m : ℕ) → q < A.states → AcceptedRun A F links l few q s m → k ≤ capped m
    least_run m h a =
        let t = a.last in
        let ht = a.last_below in
        let u = o.below t ht (accepts t ∙ a.accepted) in
        let v = d.least (pair_of F.start q) (pair_of t s) m (omega arith) (omega arith) (rw (target_of_lem F.start q hq) h)
        (rw (form_of_lem F.start q hq, target_of_lem F.start q hq, form_of_lem t s hs, target_of_lem t s hs) a.leads) in
        omega arith

    -- a least length has an accepted run
    record Run : Type 0 where
      below : q < A.states
      size : ℕ
      is : capped size ≡ k
      run : AcceptedRun A F links l few q s size

    run_least : k < no_length → Run
    run_least h =
        ⊎_elim (λ e. absurd (omega arith))
        (λ (r, hr, b, e).
        let x = d.sound (pair_of F.start q) (pair_of r s) (omega arith) (omega arith) (rw e h) in
        record {
          below = rw (target_of_lem F.start q hq) at x.0;
          size = x.1.0;
          is = x.1.1 ∙ e;
          run = record {
            last = r;
            last_below = hr;
            accepted = sym (accepts r) ∙ b;
            leads = rw (form_of_lem F.start q hq, target_of_lem F.start q hq, form_of_lem r s hs, target_of_lem r s hs) at x.1.2;
          };
        })
        o.from

    -- by the number that stands for it
    module _ (number : ℕ) (is-for : NumberOf k number) where
      number_small : number ≤ long_number
      number_small =
          elim (dec_lt k no_length) [
            | yes h ↦ let e = is-for.some h in let c = (run_least h).is in omega arith
            | no m ↦ let e = is-for.none (omega arith) in omega arith
          ]

      number_beyond : A.states ≤ q → number ≡ 0
      number_beyond b =
          elim (dec_lt k no_length) [ yes h ↦ let c = (run_least h).below in absurd (omega arith) | no m ↦ is-for.none (omega arith) ]

      told_so : q < A.states → Told A F q s (told number)
      told_so below =
          elim (dec_lt k no_length) [
            | yes h ↦
                let r = run_least h in
                let m = r.size in
                let is = r.is in
                let e = is-for.some h in
                let x = run_effect A F links l few begin q s m r.run in
                elim (dec_lt k length_cap) [
                  | yes c ↦ subst (Told A F q s) (told_tags number (λ z. omega arith) (omega arith)) (
                    omega arith,
                    record {
                      one = x.effect;
                      tags = let g = x.long in omega arith;
                      fewest = λ y.
                          let (j, g, a) = effect_run A F links l few begin q s y in
                          let f = least_run j below a in
                          omega arith;
                    },
                  )
                  | no c ↦ subst (Told A F q s) (told_longer number (omega arith)) (
                      record {
                        one = x.effect;
                        more = λ y.
                            let (j, g, a) = effect_run A F links l few begin q s y in
                            let f = least_run j below a in
                            omega arith;
                      }
                      )
                ]
            | no h ↦ subst (Told A F q s) (told_none number (is-for.none (omega arith))) (λ y.
                let (j, g, a) = effect_run A F links l few begin q s y in
                let f = least_run j below a in
                absurd (omega arith))
          ]

  pub numbers_put : A.states ≤ most_states → (start : ℕ) (numbers : List ℕ) → start ≡ F.start →
      NumbersWritten lengths start last form_numbers numbers → NumbersPut A F numbers
  numbers_put n start numbers es v =
      let w = subst (λ x. NumbersWritten lengths x last form_numbers numbers) es v in
      let at : (q s : ℕ) → q < most_states → s < most_states →
      (k : ℕ) × LeastOver lengths (pair_of F.start q) last s most_reply_states k × NumberOf k (get_or numbers (pair_of q s) 0) =
      λ q s hq hs.
      let (k, o, e) = w.written (pair_of q s) (omega arith) in (k, rw (form_of_lem q s hs, target_of_lem q s hs) at o, e) in
      record {
        exact = λ q s hq hs. let (k, o, e) = at q s (omega arith) hs in told_so q s k (omega arith) hs o _ e hq;
        beyond = λ q s b hq hs. let (k, o, e) = at q s hq hs in number_beyond q s k hq hs o _ e b;
        numbered = λ i h.
            let (k, o, e) = w.written i h in number_small (i / most_states) (i % most_states) k (omega arith) (omega arith) o _ e;
      }
