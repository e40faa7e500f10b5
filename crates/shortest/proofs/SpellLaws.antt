-- The first forest that is wanted, as it is written: nothing, or an element, by what was written within it and what was written after it.
use mathlib.Core.Path.{◌≡◌, refl, ◌∙◌, ap}
use mathlib.Core.Logic.{◌↔◌, ⊎_elim}
use mathlib.Core.List.{List}
use Prim.Native.Nat.{ℕ, suc, ◌+◌, ◌-◌, ◌*◌, ◌/◌, ◌<◌, ◌≤◌}
use native.Mathlib.Omega.{arith}
use lib.ListN.{length, set, replicate}
use Rattle.words.specs.Tag.{codes}
use Rattle.words.specs.Forest.{Forest, none, elem}
use Rattle.words.proofs.ForestLong.{elements}
use Rattle.automata.specs.Target.{Target, Closed}
use Rattle.automata.specs.TargetBody.{most_states}
use Rattle.automata.specs.Reply.{Form}
use Rattle.automata.specs.ReplyBody.{most_reply_states}
use Rattle.automata.specs.Inner.FormState.{IsFormState}
use Rattle.automata.specs.Inner.TargetRead.{over}
use Rattle.automata.proofs.MaskTableLaws.{no_row, zeros_empty}
use Rattle.replies.specs.Inner.Relation.{Composed, OverIs}
use Rattle.replies.specs.Inner.Transitions.{ElementOf}
use Rattle.replies.proofs.RelationLaws.{identity}
use Rattle.replies.proofs.LawfulPass.{over_identity, over_element, over_joined}
use Rattle.relaxation.specs.Inner.Pairs.{pair_count, form_part, target_part}
use Rattle.relaxation.specs.Inner.PairSet.{mask_index, Member, Gains}
use Rattle.shortest.specs.Inner.Wanted.{goal_count, FormTables, FirstWanted, Sought}
use Rattle.shortest.specs.Inner.Stops.{StopAt}
use Rattle.shortest.specs.Inner.Insides.{NoneBefore, FirstCode, OnwardOf}
use Rattle.shortest.specs.Inner.Spelled.{FirstSpelled}
use Rattle.shortest.specs.declared.spell.Spelled.{Spelled}
use Rattle.shortest.proofs.SpelledLaws.{spelled_none, spelled_elem}
use Rattle.shortest.proofs.WantedLaws.{sought_from, wanted_within, first_none, sought_inside, sought_onward, first_elem}

-- a table of goals that was empty has exactly those that it gained
gained_goals : {N : ℕ → ℕ → Type 0} {next : List ℕ} → Gains (replicate goal_count 0) next N → (s z : ℕ) → IsFormState s → z < pair_count →
    Member next s z ↔ N s z
gained_goals g s z hs hz = (
  λ m.
      ⊎_elim (λ old. absurd (no_row (replicate goal_count 0) (zeros_empty goal_count) (mask_index s (form_part z)) (target_part z) old))
      (λ n. n)
      (g.either s z (omega arith) hz m),
  g.has_it s z (omega arith) hz,
)

-- what is wanted is sought from a place on
pub record Begun (A : Target) (F : Form) (links rules lengths goals : List ℕ) (q at : ℕ) (buffer : List ℕ) : Type 0 where
  pub closed : Closed A
  pub few : A.states ≤ most_states
  pub tables : FormTables A F links rules lengths
  pub below : q < A.states
  pub sought : Sought lengths goals q at (length buffer)

module _ {A : Target} {F : Form} {links rules lengths goals buffer : List ℕ} {q at : ℕ}
    (k : Begun A F links rules lengths goals q at buffer) where
  -- nothing is left to be written
  pub spell_none : NoneBefore (StopAt lengths goals q) A links lengths q codes →
      FirstSpelled A F lengths goals q at (record { relation = identity; state = q; end = at }) buffer buffer
  spell_none e = (
    none,
    first_none A F links rules lengths k.closed k.few k.tables goals q at (length buffer) k.below k.sought e,
    record { relation = over_identity F; state = refl; end = omega arith; bytes = spelled_none buffer at },
  )

  -- the first code was chosen
  module _ {c : ℕ} {inside : List ℕ} (chosen : FirstCode (StopAt lengths goals q) A links lengths q c inside) where
    inside_sought : Sought lengths inside (A.open_to q c) (at + 2) (length buffer)
    inside_sought =
        sought_inside A F links rules lengths k.closed k.few k.tables goals q at (length buffer) k.below k.sought c inside
        chosen

    pub spell_inside : {o : ℕ} → o ≡ A.open_to q c → Sought lengths inside o (at + 1) (length buffer)
    spell_inside e = rw e (sought_from (omega arith) inside_sought)

    pub place_within : at < length buffer
    place_within =
        let (p, z, hp, hz, m) = inside_sought.some in
        let h = inside_sought.within p z hp hz m in
        omega arith

    -- the inside was written
    module _ {o : ℕ} (o_is : o ≡ A.open_to q c) {r : Spelled} {new : List ℕ}
        (w : FirstSpelled A F lengths inside o (at + 1) r (set buffer at c) new) where
      abbrev g : Forest
      g = w.0

      first_inside : FirstWanted A F lengths inside (A.open_to q c) g
      first_inside = rw o_is at w.1

      state_inside : r.state ≡ over A g (A.open_to q c)
      state_inside = w.2.state ∙ ap (over A g) o_is

      room_inside : at + 2 + 2 * elements g ≤ length buffer
      room_inside =
          wanted_within A F links rules lengths k.closed k.few k.tables inside (A.open_to q c) (at + 2) (length buffer)
          (k.closed.open_below q c) inside_sought g first_inside.wanted

      half_is : (r.end + 1 - at) / 2 ≡ suc (elements g)
      half_is = let e = w.2.end in omega arith

      pub end_inside : (at < r.end) × (r.end < length buffer)
      end_inside = let end = w.2.end in let h = room_inside in (omega arith, omega arith)

      -- the element's relation and its end, and the goals of what follows
      module _ {m u : ℕ} {next : List ℕ} (element : ElementOf rules 0 c r.relation most_reply_states m)
          (u-is : u ≡ A.close_to r.state q c)
          (gains : Gains (replicate goal_count 0) next (OnwardOf lengths goals q m u ((r.end + 1 - at) / 2))) where
        over_it : OverIs F (elem c g none) m
        over_it = over_element F k.tables.few k.tables.rules_are chosen.is_code w.2.relation element

        end_is : u ≡ A.close_to (over A g (A.open_to q c)) q c
        end_is = u-is ∙ ap (λ x. A.close_to x q c) state_inside

        exact : (s z : ℕ) → IsFormState s → z < pair_count →
            Member next s z ↔ OnwardOf lengths goals q m (A.close_to (over A g (A.open_to q c)) q c) (suc (elements g)) s z
        exact = rw (end_is, half_is) at (gained_goals gains)

        long : length next ≡ goal_count
        long = gains.long

        pub spell_onward : Sought lengths next u (r.end + 1) (length buffer)
        spell_onward =
            let end = w.2.end in
            let e : r.end + 1 ≡ at + 2 * suc (elements g) = omega arith in
            rw (end_is, e)
            (sought_onward A F links rules lengths k.closed k.few k.tables goals q at (length buffer) k.below k.sought c
            inside chosen g first_inside.wanted m over_it next long exact)

        -- and these were written
        pub spell_elem : {v m' : ℕ} {r' : Spelled} {new' : List ℕ} → v ≡ codes + c →
            FirstSpelled A F lengths next u (r.end + 1) r' (set new r.end v) new' → Composed m r'.relation m' →
            FirstSpelled A F lengths goals q at (record { relation = m'; state = r'.state; end = r'.end }) buffer new'
        spell_elem v-is (h, first, written) composed =
            let whole =
            first_elem A F links rules lengths k.closed k.few k.tables goals q at (length buffer) k.below k.sought c inside
            chosen g first_inside.wanted m over_it next long exact h first_inside (rw end_is at first) in
            let room =
            wanted_within A F links rules lengths k.closed k.few k.tables goals q at (length buffer) k.below k.sought
            (elem c g h) whole.wanted in
            let last = w.2.end in
            let end = written.end in (
              elem c g h,
              whole,
              record {
                relation = over_joined F k.tables.few over_it written.relation composed;
                state = written.state ∙ ap (over A h) end_is;
                end = omega arith;
                bytes = written.bytes ∙ (rw (w.2.bytes, last, v-is) (spelled_elem buffer at c g h room));
              },
            )
