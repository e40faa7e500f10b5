-- The loops around an inside: the candidates of each turn, and of all of them together.
use mathlib.Core.Path.{◌≡◌, refl, sym, ◌∙◌, ap}
use mathlib.Core.Bool.{true, false, true≢false}
use mathlib.Core.List.{List}
use Prim.Native.Nat.{ℕ, ◌+◌, ◌<◌, ◌≤◌}
use native.Mathlib.Omega.{arith}
use native.Mathlib.Nat.{lt_of_lt_of_le}
use lib.ListN.{get_or}
use Rattle.words.specs.Tag.{codes, IsCode}
use Rattle.automata.specs.Bits.{bit}
use Rattle.automata.specs.Target.{Target}
use Rattle.automata.specs.TargetBody.{most_states}
use Rattle.automata.specs.ReplyBody.{most_reply_states}
use Rattle.automata.specs.Inner.NextIn.{NextIn}
use Rattle.automata.proofs.MaskTableLaws.{no_bit}
use Rattle.replies.specs.Inner.Links.{link_index}
use Rattle.relaxation.specs.Inner.Pairs.{pair_count, pair_of, form_part, target_part}
use Rattle.relaxation.specs.Inner.Wraps.{image_of, closing_step, SomeLink}
use Rattle.relaxation.specs.Inner.Relaxation.{Found, Relaxed, Ends, LinkedEnds, Around, AroundState, AroundAny}
use Rattle.relaxation.proofs.ImageLaws.{image_of_lem, image_has}
use Rattle.relaxation.proofs.RelaxTurns.{Passed, turns_more, turns_skip, turns_skip_to, turns_all}
use Rattle.relaxation.proofs.PairLaws.{form_of_lem, target_of_lem, pair_is}

-- the parts of a pair
form_below : (x : ℕ) → x < pair_count → form_part x < most_reply_states
form_below x h = omega arith

-- the form states of a link
module _ (x link mask next : ℕ) where
  pub LinkTurn : ℕ → ℕ → ℕ → ℕ → Type 0
  LinkTurn r x' z' k' = (bit link r ≡ true) × Ends x r mask next x' z' k'

  module _ {f g : Found} (r : ℕ) (u : Relaxed next (Passed LinkTurn r) f g) where
    pub link_more : {h : Found} → bit link r ≡ true → Relaxed next (Ends x r mask next) g h → Relaxed next (Passed LinkTurn (r + 1)) f h
    unfolding LinkTurn
    link_more e v = turns_more LinkTurn r u v (λ x' z' k' hx hz t. (e, t)) (λ x' z' k' hx hz (d, t). t)

    -- t is the next form state of the link
    pub link_next : (t : ℕ) → NextIn link r t → Relaxed next (Passed LinkTurn t) f g
    unfolding LinkTurn
    link_next t n =
        turns_skip_to LinkTurn r t n.from_on u (λ i x' z' k' a b hx hz (d, e). true≢false (sym d ∙ n.none i a b))

  pub link_all : {f g : Found} (r : ℕ) → most_reply_states ≤ r → Relaxed next (Passed LinkTurn r) f g →
      Relaxed next (LinkedEnds x link mask next) f g
  unfolding LinkTurn
  link_all r h u =
      turns_all LinkTurn r u
      (λ x' z' k' i hx hz l (d, (ex, er, em, ek)). (ex, ap (bit link) er ∙ d, em, ek))
      (λ x' z' k' hx hz (ex, d, em, ek). (form_part z', lt_of_lt_of_le (form_below z' hz) h, (d, (ex, refl, em, ek))))

-- the form states where an element of code c may begin
module _ (links : List ℕ) (c q a b mask next : ℕ) where
  pub StateTurn : ℕ → ℕ → ℕ → ℕ → Type 0
  StateTurn p x' z' k' = LinkedEnds (pair_of p q) (get_or links (link_index c p a b) 0) mask next x' z' k'

  module _ {f g : Found} (p : ℕ) (u : Relaxed next (Passed StateTurn p) f g) where
    pub state_more : {h : Found} (m : ℕ) → m ≡ get_or links (link_index c p a b) 0 →
        Relaxed next (LinkedEnds (pair_of p q) m mask next) g h →
        Relaxed next (Passed StateTurn (p + 1)) f h
    unfolding StateTurn
    state_more m e v = turns_more StateTurn p u (rw e at v) (λ x' z' k' hx hz t. t) (λ x' z' k' hx hz t. t)

    pub state_skip : get_or links (link_index c p a b) 0 ≡ 0 → Relaxed next (Passed StateTurn (p + 1)) f g
    unfolding StateTurn
    state_skip e = turns_skip StateTurn p u (λ x' z' k' hx hz (ex, d, em, ek). no_bit (form_part z') (rw e at d))

  pub state_all : {f g : Found} → q < most_states → Relaxed next (Passed StateTurn most_reply_states) f g →
      Relaxed next (AroundState links c q a b mask next) f g
  unfolding StateTurn
  state_all h u =
      turns_all StateTurn most_reply_states u
      (λ x' z' k' p hx hz l (ex, d, em, ek). (ap target_part ex ∙ target_of_lem p q h, rw (ap form_part ex ∙ form_of_lem p q h) d, em, ek))
      (λ x' z' k' hx hz (et, d, em, ek). (form_part x', form_below x' hx, (pair_is (form_part x') q x' refl et, d, em, ek)))

-- the target states where it may begin
module _ (A : Target) (links : List ℕ) (y b mask c next : ℕ) where
  pub CodeTurn : ℕ → ℕ → ℕ → ℕ → Type 0
  CodeTurn q x' z' k' =
      (A.open_to q c ≡ target_part y) ×
      AroundState links c q (form_part y) b (image_of (closing_step A q c) mask A.states) next x' z' k'

  module _ {f g : Found} (q : ℕ) (u : Relaxed next (Passed CodeTurn q) f g) where
    pub code_more : {h : Found} (m : ℕ) → A.open_to q c ≡ target_part y → m ≡ image_of (closing_step A q c) mask A.states →
        Relaxed next (AroundState links c q (form_part y) b m next) g h → Relaxed next (Passed CodeTurn (q + 1)) f h
    unfolding CodeTurn
    code_more m e i v =
        turns_more CodeTurn q u v
        (λ x' z' k' hx hz (et, d, em, ek). (e, (et, d, rw i at em, ek)))
        (λ x' z' k' hx hz (d, (et, l, em, ek)). (et, l, rw i em, ek))

    pub code_skip : ¬ (A.open_to q c ≡ target_part y) → Relaxed next (Passed CodeTurn (q + 1)) f g
    unfolding CodeTurn
    code_skip n = turns_skip CodeTurn q u (λ x' z' k' hx hz (d, t). n d)

  -- such an element, and its turn
  code_around : (x z k q : ℕ) → IsCode c → q < A.states → CodeTurn q x z k → Around A links y b mask next x z k c
  unfolding closing_step CodeTurn
  code_around x z k q h l (o, (et, d, em, ek)) =
      let i = image_of_lem (closing_step A q c) mask A.states (target_part z) em in
      record {
        inside = i.of;
        has_it = i.has_it;
        inside_below = i.below;
        wraps = record { is_code = h; below = rw et l; opens = rw et o; leads = d; closes = rw et i.is };
        is = ek;
      }

  around_code : (x z k : ℕ) → Around A links y b mask next x z k c → Passed CodeTurn A.states x z k
  unfolding closing_step CodeTurn
  around_code x z k e =
      let w = e.wraps in
      let i = image_has (closing_step A (target_part x) c) mask A.states e.inside e.inside_below e.has_it in
      (target_part x, w.below, (w.opens, (refl, w.leads, rw w.closes at i, e.is)))

  pub code_all : {f g : Found} → IsCode c → Relaxed next (Passed CodeTurn A.states) f g →
      Relaxed next (λ x' z' k'. Around A links y b mask next x' z' k' c) f g
  unfolding CodeTurn
  code_all h u =
      turns_all CodeTurn A.states u (λ x' z' k' q hx hz l t. code_around x' z' k' q h l t) (λ x' z' k' hx hz e. around_code x' z' k' e)

-- the codes
module _ (A : Target) (links : List ℕ) (y b mask next : ℕ) where
  pub AnyTurn : ℕ → ℕ → ℕ → ℕ → Type 0
  AnyTurn c x' z' k' = Around A links y b mask next x' z' k' c

  module _ {f g : Found} (c : ℕ) (u : Relaxed next (Passed AnyTurn c) f g) where
    pub any_more : {h : Found} → Relaxed next (λ x' z' k'. Around A links y b mask next x' z' k' c) g h →
        Relaxed next (Passed AnyTurn (c + 1)) f h
    unfolding AnyTurn
    any_more v = turns_more AnyTurn c u v (λ x' z' k' hx hz t. t) (λ x' z' k' hx hz t. t)

    pub any_skip : SomeLink links c (form_part y) b false → Relaxed next (Passed AnyTurn (c + 1)) f g
    unfolding AnyTurn
    any_skip s =
        turns_skip AnyTurn c u
        (λ x' z' k' hx hz t. no_bit (form_part z') (rw (s.none refl (form_part x') (form_below x' hx)) at t.wraps.leads))

  pub any_all : {f g : Found} → Relaxed next (Passed AnyTurn codes) f g → Relaxed next (AroundAny A links y b mask next) f g
  unfolding AnyTurn
  any_all u =
      turns_all AnyTurn codes u (λ x' z' k' c hx hz l t. (c, t)) (λ x' z' k' hx hz (c, t). (c, t.wraps.is_code, t))
