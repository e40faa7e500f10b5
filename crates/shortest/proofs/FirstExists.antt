-- Where a lawful reply leads into a set of states that is decidable, there is a first one of the shortest: numbers of tags are tried from 0
-- on, and the words of each in byte order.
use mathlib.Core.Path.{◌≡◌, refl, sym, ◌∙◌, subst}
use mathlib.Core.Logic.{⊎_elim}
use mathlib.Core.List.{[]}
use Prim.Native.Nat.{ℕ, suc, ◌<◌}
use native.Mathlib.Omega.{arith}
use native.Mathlib.Decide.{map_dec, ℕ_discrete, dec_lt}
use lib.ListN.{length}
use Rattle.words.specs.Decide.Deciders.{both?}
use Rattle.words.specs.Tag.{Word}
use Rattle.automata.specs.Target.{Target, at, run}
use Rattle.automata.specs.Inner.TargetRead.{over}
use Rattle.automata.specs.Reply.{Form, Lawful}
use Rattle.automata.proofs.Lawful.{lawful?}
use Rattle.automata.proofs.TargetRun.{at_state, run_nested}
use Rattle.effects.specs.Effect.{Effect}
use Rattle.shortest.specs.Inner.First.{FirstInto}
use Rattle.shortest.proofs.FirstWord.{FirstOf, NoneOf, sized_nested, first_word, first_number}

module _ (A : Target) (F : Form) (q : ℕ) (In : ℕ → Type 0) where
  -- a word of n tags is a lawful reply that leads into the set
  abbrev Into : ℕ → Word → Type 0
  Into n w = (length w ≡ n) × (Lawful F w × ((s : ℕ) × In s × (run A w (at q []) ≡ at s [])))

  effect_into : (s : ℕ) → In s → (e : Effect A F q s) → Into (length e.reply) e.reply
  effect_into s h e = (refl, (e.lawful, (s, h, e.reaches)))

  first_into : (n : ℕ) → FirstOf (Into n) → ((k : ℕ) → k < n → NoneOf (Into k)) → (u : Word) × FirstInto A F q In u
  first_into n (u, (l, (lawful, (s, h, reaches))), before) fewer = (
    u,
    record {
      state = s;
      in_it = h;
      lawful = lawful;
      reaches = reaches;
      shortest = λ s' h' e. elim (dec_lt (length e.reply) n) [
        | yes b ↦ absurd (fewer (length e.reply) b e.reply (effect_into s' h' e))
        | no m ↦ omega arith
      ];
      first = λ s' h' e k. before e.reply (k ∙ l, (e.lawful, (s', h', e.reaches)));
    },
  )

  into? : ((s : ℕ) → Dec (In s)) → (n : ℕ) (w : Word) → Dec (Into n w)
  into? in? n w =
      both? (ℕ_discrete (length w) n) (elim (lawful? F w) [
        | no m ↦ no (λ x. m x.0)
        | yes l ↦
            let runs = run_nested A w l.nested q [] in
            map_dec (λ h. (l, (over A l.nested.forest q, h, runs))) (λ (_, (s, h, r)). subst In (at_state (sym r ∙ runs)) h)
            (in? (over A l.nested.forest q))
      ])

pub first_exists : (A : Target) (F : Form) (q : ℕ) (In : ℕ → Type 0) → ((s : ℕ) → Dec (In s)) → (s : ℕ) → In s → Effect A F q s →
    (u : Word) × FirstInto A F q In u
first_exists A F q In in? s h e =
    let P = Into A F q In in
    ⊎_elim (λ (n, x, fewer). first_into A F q In n x fewer)
    (λ no_length_lem. absurd (no_length_lem (length e.reply) (omega arith) e.reply (effect_into A F q In s h e)))
    (first_number (λ n. FirstOf (P n)) (λ n. NoneOf (P n))
    (λ n. first_word n (P n) (into? A F q In in? n) (λ w (l, (lawful, _)). sized_nested w n l lawful.nested)) (suc (length e.reply)))
