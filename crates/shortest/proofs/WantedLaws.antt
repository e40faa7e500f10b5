-- Goals of a whole, of its first element's inside and of what follows that element. The parts of a forest that is wanted are wanted, and
-- the first forest of all has the first code, the first inside and the first that follows.
use mathlib.Core.Path.{◌≡◌, refl, subst}
use mathlib.Core.Logic.{◌↔◌, ⊎_elim}
use mathlib.Core.List.{List}
use Prim.Native.Nat.{ℕ, suc, ◌+◌, ◌*◌, ◌<◌, ◌≤◌}
use native.Mathlib.Omega.{arith}
use lib.ListN.{length}
use Rattle.words.specs.Tag.{codes, IsCode}
use Rattle.words.specs.Forest.{Forest, none, elem, Coded}
use Rattle.words.specs.Inner.ForestOrder.{ForestPrecedes}
use Rattle.words.proofs.ForestLong.{elements}
use Rattle.words.proofs.ForestJoined.{joined}
use Rattle.automata.specs.Target.{Target, Closed}
use Rattle.automata.specs.TargetBody.{most_states}
use Rattle.automata.specs.Inner.TargetRead.{over}
use Rattle.automata.specs.Reply.{Form}
use Rattle.automata.specs.Inner.FormState.{IsFormState}
use Rattle.automata.specs.Inner.ForestRun.{Over, over_none, over_elem}
use Rattle.replies.specs.Inner.Links.{Linked}
use Rattle.replies.specs.Inner.Relation.{OverIs}
use Rattle.effects.specs.Inner.EffectForest.{Led}
use Rattle.relaxation.specs.Inner.Pairs.{pair_count, pair_of, form_part, target_part}
use Rattle.relaxation.specs.Inner.PairSet.{Member}
use Rattle.relaxation.specs.Inner.Lengths.{length_of, length_cap}
use Rattle.relaxation.proofs.PairLaws.{form_of_lem, target_of_lem, pair_below}
use Rattle.shortest.specs.Inner.Wanted.{goal_count, FormTables, Wanted, FirstWanted, Sought}
use Rattle.shortest.specs.Inner.Stops.{StopAt}
use Rattle.shortest.specs.Inner.Insides.{InsideGoal, NoneBefore, FirstCode, OnwardOf}
use Rattle.shortest.proofs.LengthLaws.{elements_joined, led_joined, led_elem, Smallest, led_below, length_led}
use Rattle.shortest.proofs.LengthLaws.{length_smallest, smallest_length}

-- less is needed from an earlier place on
pub sought_from : {lengths goals : List ℕ} {q at at' room : ℕ} → at' ≤ at → Sought lengths goals q at room → Sought lengths goals q at' room
sought_from h s =
    record {
      long = s.long;
      some = s.some;
      counted = s.counted;
      within = λ p z hp hz m. let w = s.within p z hp hz m in omega arith;
    }

-- where an element's inside leads the target, and where the element does
abbrev inside_to : Target → ℕ → ℕ → Forest → ℕ
inside_to A q c g = over A g (A.open_to q c)

abbrev element_to : Target → ℕ → ℕ → Forest → ℕ
element_to A q c g = A.close_to (inside_to A q c g) q c

-- a run over one element, and how it goes on
run_one : {F : Form} {c p a b s : ℕ} {g : Forest} → Linked F c p a b s → Over F a g b → Over F p (elem c g none) s
run_one l o = over_elem l.opened o l.closed over_none

run_on : {F : Form} {c p s r : ℕ} {g h : Forest} → Over F p (elem c g none) s → Over F s h r → Over F p (elem c g h) r
run_on (over_elem x i y over_none) o = over_elem x i y o

module _ (A : Target) (F : Form) where
  -- an element and what follows it, by the form's states between them
  record Parts (p q p' q' c : ℕ) (g h : Forest) : Type 0 where
    pub first : ℕ
    pub last : ℕ
    pub end : ℕ
    pub is_code : IsCode c
    pub linked : Linked F c p first last end
    pub inside : Led A F first (A.open_to q c) last (inside_to A q c g) g
    pub after : Led A F end (element_to A q c g) p' q' h

  run_parts : {p q p' q' c : ℕ} {g h : Forest} → Coded (elem c g h) → Over F p (elem c g h) p' → over A (elem c g h) q ≡ q' →
      Parts p q p' q' c g h
  run_parts (hc, cg, ch) (over_elem {p = a} {k = k} {r = b} {s = s} x i y o) e =
      record {
        first = a;
        last = b;
        end = s;
        is_code = hc;
        linked = record { kept = k; opened = x; closed = y };
        inside = record { coded = cg; ran = i; reaches = refl };
        after = record { coded = ch; ran = o; reaches = e };
      }

  led_parts : {p q p' q' c : ℕ} {g h : Forest} → Led A F p q p' q' (elem c g h) → Parts p q p' q' c g h
  led_parts l = run_parts l.coded l.ran l.reaches

  -- the parts of a smallest forest are smallest: another in the place of one makes another whole
  module _ {p q p' q' c : ℕ} {g h : Forest} (x : Parts p q p' q' c g h) (s : Smallest A F p q p' q' (elem c g h)) where
    smallest_inside : Smallest A F x.first (A.open_to q c) x.last (inside_to A q c g) g
    smallest_inside =
        record {
          led = x.inside;
          least = λ k l. let m = s.least (elem c k h) (led_elem A F x.is_code x.linked l x.after) in omega arith;
        }

    smallest_element : Smallest A F p q x.end (element_to A q c g) (elem c g none)
    smallest_element =
        record {
          led = led_elem A F x.is_code x.linked x.inside (record { coded = tt; ran = over_none; reaches = refl });
          least = λ k l.
              let m = s.least (joined k h) (led_joined A F l x.after) in
              let e = elements_joined k h in
              omega arith;
        }

    smallest_after : Smallest A F x.end (element_to A q c g) p' q' h
    smallest_after =
        record {
          led = x.after;
          least = λ k l. let m = s.least (elem c g k) (led_elem A F x.is_code x.linked x.inside l) in omega arith;
        }

-- A forest that is wanted splits after its first element: each part has the least length there.
record Split (A : Target) (F : Form) (lengths goals : List ℕ) (q c : ℕ) (g h : Forest) (w : Wanted A F lengths goals q (elem c g h))
    : Type 0 where
  pub parts : Parts A F w.from q (form_part w.to) (target_part w.to) c g h
  pub first_state : IsFormState parts.first
  pub last_state : IsFormState parts.last
  pub end_state : IsFormState parts.end
  pub inside_below : inside_to A q c g < A.states
  pub inside_size : elements g ≡ length_of lengths (pair_of parts.first (A.open_to q c)) (pair_of parts.last (inside_to A q c g))
  pub element_size : suc (elements g) ≡ length_of lengths (pair_of w.from q) (pair_of parts.end (element_to A q c g))
  pub after_size : elements h ≡ length_of lengths (pair_of parts.end (element_to A q c g)) w.to
  pub counted : suc (elements g + elements h) < length_cap

module _ (A : Target) (F : Form) (links rules lengths : List ℕ) (closed : Closed A) (few : A.states ≤ most_states)
    (t : FormTables A F links rules lengths) (goals : List ℕ) (q at room : ℕ) (hq : q < A.states)
    (s : Sought lengths goals q at room) where
  -- something is wanted
  pub some_wanted : (f : Forest) × Wanted A F lengths goals q f
  some_wanted =
      let (p, z, hp, hz, m) = s.some in
      let (f, l, e) = length_led A F links rules lengths closed few t p q z hp hq hz (s.counted p z hp hz m) in
      (f, record { from = p; to = z; from_state = hp; to_pair = hz; goal = m; led = l; size = e })

  -- a forest that is wanted has room
  pub wanted_within : (f : Forest) → Wanted A F lengths goals q f → at + 2 * elements f ≤ room
  wanted_within f w = let h = s.within w.from w.to w.from_state w.to_pair w.goal in omega arith

  split : {c : ℕ} {g h : Forest} (w : Wanted A F lengths goals q (elem c g h)) → Split A F lengths goals q c g h w
  split {c} {g} {h} w =
      let z = w.to in
      let hz = w.to_pair in
      let ez : pair_of (form_part z) (target_part z) ≡ z = omega arith in
      let x = led_parts A F w.led in
      let ho = closed.open_below q c in
      let ha = (t.few.opening_below x.linked.opened).0 in
      let (hb, hr) = led_below A F links rules lengths closed few t ha ho x.inside in
      let hs = t.few.closing_below x.linked.closed in
      let ht = closed.close_below (inside_to A q c g) q c in
      let counted = s.counted w.from z w.from_state hz w.goal in
      let whole = length_smallest A F links rules lengths closed few t w.from_state hq w.led (rw ez w.size) in
      let below : suc (elements g + elements h) < length_cap = omega arith in
      let one = smallest_length A F links rules lengths closed few t w.from_state hq (smallest_element A F x whole) (omega arith) in
      record {
        parts = x;
        first_state = ha;
        last_state = hb;
        end_state = hs;
        inside_below = hr;
        inside_size = smallest_length A F links rules lengths closed few t ha ho (smallest_inside A F x whole) (omega arith);
        element_size = omega arith;
        after_size = rw ez at (smallest_length A F links rules lengths closed few t hs ht (smallest_after A F x whole) (omega arith));
        counted = below;
      }

  -- so its first element is a stop on the way, and the inside has a goal
  inside_goal : {c : ℕ} {g h : Forest} {w : Wanted A F lengths goals q (elem c g h)} (x : Split A F lengths goals q c g h w) →
      InsideGoal lengths (StopAt lengths goals q) q A links c x.parts.first (pair_of x.parts.last (inside_to A q c g))
  inside_goal {c} {g} {w = w} x =
      let p = w.from in
      let hp = w.from_state in
      let a = x.parts.first in
      let b = x.parts.last in
      let e = x.parts.end in
      let r = inside_to A q c g in
      let hr : r < most_states = omega arith in
      let link = (t.links_of.exact c p a b e x.parts.is_code hp x.first_state x.last_state).1 x.parts.linked in
      let stop : StopAt lengths goals q p (pair_of e (element_to A q c g)) = (
        hp,
        record { some = omega arith; counted = omega arith; on_way = (w.to, w.to_pair, w.goal, omega arith) },
      ) in
      record {
        below = rw (target_of_lem b r hr) x.inside_below;
        counted = omega arith;
        element = rw (form_of_lem b r hr, target_of_lem b r hr) (
          p,
          hp,
          record { end = e; end_state = x.end_state; linked = link; stop = stop; long = omega arith },
        );
      }

  -- nothing that is wanted begins with a code before which none has a goal
  none_earlier : {c d : ℕ} {g h : Forest} → NoneBefore (StopAt lengths goals q) A links lengths q c → d < c →
      ¬ Wanted A F lengths goals q (elem d g h)
  none_earlier {d = d} {g = g} none_before l w =
      let x = split w in
      let b = x.parts.last in
      let r = inside_to A q d g in
      let hy = pair_below b r x.last_state (omega arith) in
      none_before d x.parts.first (pair_of b r) l x.first_state hy (inside_goal x)

  -- no code has a goal for its inside: the empty forest is all that is wanted
  module _ (no_code : NoneBefore (StopAt lengths goals q) A links lengths q codes) where
    no_element : {d : ℕ} {g h : Forest} → ¬ Wanted A F lengths goals q (elem d g h)
    no_element w = none_earlier no_code (split w).parts.is_code w

    only_none : (f : Forest) → Wanted A F lengths goals q f → Wanted A F lengths goals q none
    only_none none w = w
    only_none (elem d g h) w = absurd (no_element w)

    none_is_first : (f : Forest) → Wanted A F lengths goals q f → ¬ ForestPrecedes f none
    none_is_first none w b = b
    none_is_first (elem d g h) w b = no_element w

    pub first_none : FirstWanted A F lengths goals q none
    first_none = record { wanted = only_none some_wanted.0 some_wanted.1; first = none_is_first }

  module _ (c : ℕ) (inside : List ℕ) (chosen : FirstCode (StopAt lengths goals q) A links lengths q c inside) where
    -- the inside can be sought, with room for the element's two tags
    pub sought_inside : Sought lengths inside (A.open_to q c) (at + 2) room
    sought_inside =
        record {
          long = chosen.long;
          some = chosen.some;
          counted = λ a y ha hy m. ((chosen.exact a y ha hy).0 m).counted;
          within = λ a y ha hy m.
              let (p, hp, e) = ((chosen.exact a y ha hy).0 m).element in
              let (z, hz, goal, sum) = e.stop.1.on_way in
              let whole = s.within p z hp hz goal in
              omega arith;
        }

    -- what is within the first element of a forest that is wanted is wanted there
    inside_wanted : {g h : Forest} → Wanted A F lengths goals q (elem c g h) → Wanted A F lengths inside (A.open_to q c) g
    inside_wanted {g} w =
        let x = split w in
        let a = x.parts.first in
        let b = x.parts.last in
        let r = inside_to A q c g in
        let hr : r < most_states = omega arith in
        let hy = pair_below b r x.last_state hr in
        record {
          from = a;
          to = pair_of b r;
          from_state = x.first_state;
          to_pair = hy;
          goal = (chosen.exact a (pair_of b r) x.first_state hy).1 (inside_goal x);
          led = rw (form_of_lem b r hr, target_of_lem b r hr) x.parts.inside;
          size = x.inside_size;
        }

    -- g is wanted within the element; m is what the element relates; a table has the goals of what follows
    module _ (g : Forest) (w : Wanted A F lengths inside (A.open_to q c) g) (m : ℕ) (is : OverIs F (elem c g none) m)
        (next : List ℕ) (long : length next ≡ goal_count)
        (exact : (s z : ℕ) → IsFormState s → z < pair_count →
        Member next s z ↔ OnwardOf lengths goals q m (A.close_to (over A g (A.open_to q c)) q c) (suc (elements g)) s z) where
      -- a goal of the whole is one of what follows, where the element leads on a shortest way to it
      goal_onward : (p e z : ℕ) → IsFormState p → IsFormState e → z < pair_count → Over F p (elem c g none) e → Member goals p z →
          length_of lengths (pair_of p q) z ≡ suc (elements g) + length_of lengths (pair_of e (element_to A q c g)) z → Member next e z
      goal_onward p e z hp he hz o goal rest =
          (exact e z he hz).1 (
            he,
            record { from = p; from_state = hp; related = (is.exact p e hp he).1 o; goal = goal; rest = rest },
          )

      pub sought_onward : Sought lengths next (A.close_to (over A g (A.open_to q c)) q c) (at + 2 * suc (elements g)) room
      sought_onward =
          let a = w.from in
          let y = w.to in
          let hy = w.to_pair in
          let (p, hp, x) = ((chosen.exact a y w.from_state hy).0 w.goal).element in
          let e = x.end in
          let he = x.end_state in
          let link = (t.links_of.exact c p a (form_part y) e chosen.is_code hp w.from_state (omega arith)).0 x.linked in
          let (z, hz, goal, sum) = x.stop.1.on_way in
          let d = length_of lengths (pair_of e (A.close_to (target_part y) q c)) z in
          let rest : length_of lengths (pair_of p q) z ≡ suc (elements g) + d = omega arith in
          let goal' = goal_onward p e z hp he hz (run_one link w.led.ran) goal (rw (element_to, w.led.reaches) rest) in
          record {
            long = long;
            some = (e, z, he, hz, goal');
            counted = λ s' z' hs hz m.
                let on = ((exact s' z' hs hz).0 m).1 in
                let whole = s.counted on.from z' on.from_state hz on.goal in
                omega arith;
            within = λ s' z' hs hz m.
                let on = ((exact s' z' hs hz).0 m).1 in
                let whole = s.within on.from z' on.from_state hz on.goal in
                omega arith;
          }

      -- after g, what follows it is wanted exactly where the whole is
      after_wanted : {h : Forest} → Wanted A F lengths goals q (elem c g h) → Wanted A F lengths next (element_to A q c g) h
      after_wanted v =
          let x = split v in
          let e = x.parts.end in
          let he = x.end_state in
          let one = run_one x.parts.linked x.parts.inside.ran in
          record {
            from = e;
            to = v.to;
            from_state = he;
            to_pair = v.to_pair;
            goal = goal_onward v.from e v.to v.from_state he v.to_pair one v.goal (omega arith);
            led = x.parts.after;
            size = x.after_size;
          }

      wanted_elem : {h : Forest} → Wanted A F lengths next (element_to A q c g) h → Wanted A F lengths goals q (elem c g h)
      wanted_elem v =
          let (hs, on) = (exact v.from v.to v.from_state v.to_pair).0 v.goal in
          let one = (is.exact on.from v.from on.from_state hs).0 on.related in
          record {
            from = on.from;
            to = v.to;
            from_state = on.from_state;
            to_pair = v.to_pair;
            goal = on.goal;
            led = record { coded = (chosen.is_code, w.led.coded, v.led.coded); ran = run_on one v.led.ran; reaches = v.led.reaches };
            size = omega arith;
          }

      pub first_elem : (h : Forest) → FirstWanted A F lengths inside (A.open_to q c) g →
          FirstWanted A F lengths next (A.close_to (over A g (A.open_to q c)) q c) h → FirstWanted A F lengths goals q (elem c g h)
      first_elem h first after = record { wanted = wanted_elem after.wanted; first = none_before }
        where
          none_before : (f : Forest) → Wanted A F lengths goals q f → ¬ ForestPrecedes f (elem c g h)
          none_before none v b = b
          none_before (elem d i k) v b =
              ⊎_elim (λ l. none_earlier chosen.none_before l v)
              (λ (e, b).
              let v = subst (λ x. Wanted A F lengths goals q (elem x i k)) e v in
              ⊎_elim (λ l. first.first i (inside_wanted v) l)
              (λ (ei, l). after.first k (after_wanted (subst (λ x. Wanted A F lengths goals q (elem c x k)) ei v)) l)
              b)
              b
