-- The effect is decidable, and so it can be listed. With it, whether a form has a lawful reply: a reader of the contracts needs only the
-- type of `some_reply?` at the end.
--
-- The pairs of states, of the form and of the target at once, between which a forest leads are found by saturation: a pair leads to
-- itself, and an element joins two pairs.
use Rattle.std.specs.Prelude.{◌≡◌, refl, true, ◌⊎◌, ◌↔◌, ℕ, ◌<◌}
use Rattle.std.proofs.Common.{subst, inl, inr, arith}
use Rattle.std.proofs.Math.Bool.{Bool-discrete}
use mathlib.Core.HLevel.{×_discrete}
use mathlib.Core.List.{List, [], Memᴰ}
use Rattle.std.proofs.Math.Decide.{map_dec, ℕ_discrete, dec_lt}
use Rattle.words.specs.Decide.Deciders.{both?, either?, some?, mem?}
use Rattle.words.specs.Tag.{Word, codes, IsCode}
use Rattle.words.specs.Forest.{Forest, Coded}
use Rattle.automata.specs.Target.{Target, Closed}
use Rattle.automata.specs.Inner.TargetRead.{over}
use Rattle.automata.specs.declared.reply.FormRule.{FormRule}
use Rattle.automata.specs.Reply.{rule, Form, Lawful}
use Rattle.automata.specs.Inner.ForestRun.{same_rule, Over, over_none, over_elem}
use Rattle.automata.proofs.TargetRun.{over_below}
use Rattle.effects.specs.Effect.{Effect}
use Rattle.effects.specs.Inner.EffectForest.{JointRun, joint_none, joint_elem}
use Rattle.effects.specs.Inner.EffectForest.{effect_forest, forest_effect, effect_below, some_effect}
use Rattle.effects.specs.Decide.Saturation.{Saturated, saturate}
use Rattle.effects.specs.Decide.Listing.{Listing, listing, grid, in_grid}
use Rattle.effects.specs.Decide.FormStates.{form_states, start_state, opened_state, closed_state, last_state}

-- a state of the form with one of the target, and two such: from where, and to where
abbrev Both : Type 0
Both = ℕ × ℕ

abbrev Pair : Type 0
Pair = Both × Both

both_same? : Discrete Both
both_same? = ×_discrete ℕ_discrete ℕ_discrete

same? : Discrete Pair
same? = ×_discrete both_same? both_same?

module _ (A : Target) (F : Form) where
  target_states : Listing (λ s. Unit {0}) A.states
  target_states = listing (λ s. Unit {0}) (λ s. yes tt) A.states

  abbrev boths : List Both
  boths = grid (form_states F) target_states.found

  in_boths : {p q : ℕ} → Memᴰ p (form_states F) → q < A.states → Memᴰ {A = Both} (p, q) boths
  in_boths {q = q} m h = in_grid m ((target_states.exact q).1 (h, tt))

  -- some forest leads from the one to the other
  abbrev Joint : Pair → Type 0
  Joint x = JointRun A F x.0.0 x.0.1 x.1.0 x.1.1

  -- these rules make an element in which the target ends in z, and pairs of l stand for what is within it and what is after it
  abbrev Joins : List Pair → Pair → FormRule → FormRule → ℕ → Type 0
  Joins l x o r z =
      let c = o.code in
      (x.0.0 ≡ o.state) × ((o.kept ≡ r.kept) × ((c ≡ r.code) × (IsCode c ×
      (Memᴰ {A = Pair} ((o.next, A.open_to x.0.1 c), (r.state, z)) l ×
      Memᴰ {A = Pair} ((r.next, A.close_to z x.0.1 c), x.1) l))))

  joins? : (l : List Pair) (x : Pair) (o r : FormRule) (z : ℕ) → Dec (Joins l x o r z)
  joins? l x o r z =
      let c = o.code in
      both? (ℕ_discrete x.0.0 o.state) (both? (ℕ_discrete o.kept r.kept) (both? (ℕ_discrete c r.code) (both? (dec_lt c codes)
      (both? (mem? same? ((o.next, A.open_to x.0.1 c), (r.state, z)) l) (mem? same? ((r.next, A.close_to z x.0.1 c), x.1) l)))))

  -- what follows from l: the empty forest leads from the one to the other, or an element made of pairs of l
  abbrev Next : List Pair → Pair → Type 0
  Next l x =
      (x.0 ≡ x.1) ⊎ ((o : FormRule) × Memᴰ o F.openings × ((r : FormRule) × Memᴰ r F.closings ×
      ((z : ℕ) × Memᴰ z target_states.found × Joins l x o r z)))

  next? : (l : List Pair) (x : Pair) → Dec (Next l x)
  next? l x =
      either? (both_same? x.0 x.1)
      (some? _ (λ o. some? _ (λ r. some? _ (λ z. joins? l x o r z) target_states.found) F.closings) F.openings)

  sound : (l : List Pair) → ((x : Pair) → Memᴰ x l → Joint x) → (x : Pair) → Next l x → Joint x
  sound l good x (inl e) = subst (λ (y : Both). Joint (x.0, y)) e (joint_none A F)
  sound l good x (inr (o, m, (r, n, (z, i, (e, (ek, (ec, (h, (f, g))))))))) =
      let c = o.code in
      let m' : Memᴰ (rule x.0.0 c o.next o.kept) F.openings = mathlib.Core.List.Memᴰ.cast (same_rule e refl refl refl) m in
      let n' : Memᴰ (rule r.state c r.next o.kept) F.closings = mathlib.Core.List.Memᴰ.cast (same_rule refl ec refl ek) n in
      joint_elem A F h m' n' (good ((o.next, A.open_to x.0.1 c), (r.state, z)) f) (good ((r.next, A.close_to z x.0.1 c), x.1) g)

  pairs : Saturated Joint Next (grid boths boths) []
  pairs = saturate Joint Next same? next? sound (grid boths boths) [] (λ x m. absurd (mathlib.Core.List.Memᴰ.not-nil m))

  abbrev EffectFound : Both → Both → Type 0
  EffectFound x y = Memᴰ {A = Pair} (x, y) pairs.known

  -- the target ends in s with an accepting state of the form
  abbrev ReachedBy : ℕ → ℕ → Type 0
  ReachedBy q s = (t : ℕ) × Memᴰ t (form_states F) × (EffectFound (F.start, q) (t, s) × (F.accepting t ≡ true))

  reached? : (q s : ℕ) → Dec (ReachedBy q s)
  reached? q s =
      some? _ (λ t. both? (mem? same? ((F.start, q), (t, s)) pairs.known) (Bool-discrete (F.accepting t) true)) (form_states F)

  reached_effect : {q s : ℕ} → ReachedBy q s → Effect A F q s
  reached_effect {q} {s} (t, m, (i, a)) = forest_effect A F (pairs.good ((F.start, q), (t, s)) i) a

  -- the effect of the form at q
  pub effect_list : ℕ → List ℕ
  effect_list q = (listing (ReachedBy q) (reached? q) A.states).found

  module _ (is_closed : Closed A) where
    -- a forest leads only to pairs of the grid
    known : {p p' : ℕ} {f : Forest} → Over F p f p' → Memᴰ p (form_states F) → (q : ℕ) → q < A.states →
        Next pairs.known ((p, q), (p', over A f q)) → EffectFound (p, q) (p', over A f q)
    known {f = f} u m q h =
        pairs.closed _ (in_grid (in_boths m h) (in_boths (last_state F u m) (over_below A is_closed f q h)))

    -- every forest that leads from a pair is found
    complete : {p p' : ℕ} {f : Forest} → Over F p f p' → Coded f → Memᴰ p (form_states F) → (q : ℕ) → q < A.states →
        EffectFound (p, q) (p', over A f q)
    complete over_none cf m q h = known over_none m q h (inl refl)
    complete {p} (over_elem {c = c} {p = a} {k = k} {r = b} {s = s} {f = f} o u r v) (hc, cf, cg) m q h =
        let open_below = is_closed.open_below q c in
        let z = over A f (A.open_to q c) in
        let i = complete u cf (opened_state F o) (A.open_to q c) open_below in
        let j = complete v cg (closed_state F r) (A.close_to z q c) (is_closed.close_below z q c) in
        let inside = (target_states.exact z).1 (over_below A is_closed f (A.open_to q c) open_below, tt) in
        known (over_elem o u r v) m q h (inr (rule p c a k, o, (rule b c s k, r, (z, inside, (refl, (refl, (refl, (hc, (i, j)))))))))

    effect_reached : (q s : ℕ) → q < A.states → Effect A F q s → ReachedBy q s
    effect_reached q s h e =
        let x = effect_forest A F q s e in
        let start = start_state F in
        subst (ReachedBy q) x.reaches (x.last, last_state F x.ran start, (complete x.ran x.coded start q h, x.accepted))

    pub effect? : (q s : ℕ) → q < A.states → Dec (Effect A F q s)
    effect? q s h = map_dec reached_effect (effect_reached q s h) (reached? q s)

    -- the list has the effect, no more and no less
    pub effect_listed : (q s : ℕ) → q < A.states → Memᴰ s (effect_list q) ↔ Effect A F q s
    unfolding effect_list
    effect_listed q s h =
        let l = (listing (ReachedBy q) (reached? q) A.states).exact s in
        (λ m. reached_effect (l.0 m).1, λ e. l.1 (effect_below A F is_closed q s h e, effect_reached q s h e))

-- A form has a lawful reply exactly when it has an effect on a target of one state.
abbrev only_state : Target
only_state = record { states = 1; start = 0; accepting = λ q. true; open_to = λ q c. 0; close_to = λ r q c. 0 }

only_closed : Closed only_state
only_closed = record { start_below = omega arith; open_below = λ q c. omega arith; close_below = λ r q c. omega arith }

only_effect : (F : Form) → (w : Word) × Lawful F w → Effect only_state F 0 0
only_effect F l =
    let (s, e) = (some_effect only_state F 0).1 l in
    let z : s ≡ 0 = omega (arith, effect_below only_state F only_closed 0 s (omega arith) e) in
    rw z at e

pub some_reply? : (F : Form) → Dec ((w : Word) × Lawful F w)
some_reply? F = map_dec (λ e. (e.reply, e.lawful)) (only_effect F) (effect? only_state F only_closed 0 0 (omega arith))
