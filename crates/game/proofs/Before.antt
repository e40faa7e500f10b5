-- What is won before a forest: over any rule it is the test of the rule's arena on the forest followed by anything. And its laws: only
-- values that fit are looked at, everything gives everything, nothing gives nothing, more gives more.
use mathlib.Core.Path.{◌≡◌, refl, ◌∙◌, ap, subst, fun_ext}
use mathlib.Core.Bool.{Bool, true, false, ◌&&◌, ◌||◌, and-false, or-false, or-true}
use mathlib.Core.Logic.{◌↔◌, ⊎_elim}
use mathlib.Core.List.{List, [], ◌∷◌, ◌++◌, map, append_assoc, Memᴰ}
use Prim.Native.Nat.{ℕ}
use Rattle.words.specs.Tag.{opening, closing, Word}
use Rattle.words.specs.Forest.{Forest, none, elem, tags}
use Rattle.words.specs.Inner.All.{all}
use Rattle.words.proofs.ForestJoined.{joined}
use Rattle.words.proofs.ListLaws.{all_but}
use Rattle.words.proofs.Truth.{or_either, and_both}
use Rattle.automata.specs.Target.{Held, at}
use Rattle.game.specs.Arena.{Won, Lost}
use Rattle.game.specs.Rule.{Rule, arena}
use Rattle.game.specs.Listed.{Listed}
use Rattle.game.specs.Inner.Before.{goal_by, before}
use Rattle.game.proofs.Solve.{win_at, won_iff, lost_iff}
use Rattle.game.proofs.RuleGame.{FitsBy, rule_finite}

pub all_map : {A B : Type 0} (f : A → B) (p : B → Bool) (l : List A) → all p (map f l) ≡ all (λ x. p (f x)) l
all_map f p [] = refl
all_map f p (x ∷ l) = ap (λ b. p (f x) && b) (all_map f p l)

all_more : {A : Type 0} (p r : A → Bool) → ((x : A) → p x ≡ true → r x ≡ true) → (l : List A) → all p l ≡ true → all r l ≡ true
all_more p r h [] e = refl
all_more p r h (x ∷ l) e = let k = and_both (p x) (all p l) e in ap (λ b. b && all r l) (h x k.0) ∙ all_more p r h l k.1

all_same : {A : Type 0} (p r : A → Bool) (l : List A) → ((x : A) → Memᴰ x l → p x ≡ r x) → all p l ≡ all r l
all_same p r [] h = refl
all_same p r (x ∷ l) h =
    ap (λ b. b && all p l) (h x (Memᴰ.head refl)) ∙ ap (λ b. r x && b) (all_same p r l (λ y m. h y (Memᴰ.tail m)))

-- what follows a test need agree only where it passes
where_true : (m a b : Bool) → (m ≡ true → a ≡ b) → (m && a) ≡ (m && b)
where_true true a b h = h refl
where_true false a b h = refl

module _ (R : Rule) (L : Listed R) where
  abbrev pub rule_goal : ℕ → R.Val → (R.Val → Bool) → R.Val → Bool
  rule_goal = goal_by R.out R.may L.results

  abbrev win : Word → Held R.Val → Bool
  win = win_at (arena R) (rule_finite R L)

  -- the values from which the tags w are won, with ks kept
  abbrev pub winning : Word → List R.Val → R.Val → Bool
  winning w ks = λ v. win w (at v ks)

  win_opening : (c : ℕ) (w : Word) (v : R.Val) (ks : List R.Val) → win (opening c ∷ w) (at v ks) ≡ win w (at (R.into c v) (v ∷ ks))
  unfolding win_at rule_finite
  win_opening c w v ks = or-false (win w (at (R.into c v) (v ∷ ks)))

  pub win_closing : (c : ℕ) (w : Word) (r v : R.Val) (ks : List R.Val) →
      win (closing c ∷ w) (at r (v ∷ ks)) ≡ rule_goal c v (winning w ks) r
  unfolding win_at rule_finite goal_by
  win_closing c w r v ks =
      ap (λ b. win w (at (R.out c v r) ks) || (R.may c v r && b)) (all_map (λ s. at s ks) (λ x. win w x) (L.results c v r))

  -- the test of a forest followed by anything
  pub win_before : (f : Forest) (w : Word) (v : R.Val) (ks : List R.Val) →
      win (tags f ++ w) (at v ks) ≡ before R.into rule_goal f (winning w ks) v
  win_before none w v ks = refl
  win_before (elem c f g) w v ks =
      let inner = R.into c v in
      let rest = closing c ∷ (tags g ++ w) in
      win_opening c ((tags f ++ closing c ∷ tags g) ++ w) v ks ∙
      ap (λ u. win u (at inner (v ∷ ks))) (append_assoc (tags f) (closing c ∷ tags g) w) ∙
      win_before f rest inner (v ∷ ks) ∙
      ap (λ T. before R.into rule_goal f T inner)
      (fun_ext (λ r. win_closing c (tags g ++ w) r v ks ∙ ap (λ T. rule_goal c v T r) (fun_ext (λ s. win_before g w s ks))))

  -- won from a position that fits exactly when the value is in the set before the forest, and lost exactly when it is not
  module _ (f : Forest) (w : Word) (v : R.Val) (ks : List R.Val) (fits : FitsBy L.Fit (tags f ++ w) (at v ks)) where
    pub won_before_lem : Won (arena R) (tags f ++ w) (at v ks) ↔ (before R.into rule_goal f (winning w ks) v ≡ true)
    unfolding rule_finite
    won_before_lem = rw (← win_before f w v ks) (won_iff (arena R) (rule_finite R L) (tags f ++ w) (at v ks) fits)

    pub lost_before : Lost (arena R) (tags f ++ w) (at v ks) ↔ (before R.into rule_goal f (winning w ks) v ≡ false)
    unfolding rule_finite
    lost_before = rw (← win_before f w v ks) (lost_iff (arena R) (rule_finite R L) (tags f ++ w) (at v ks) fits)

-- sets that have the same of the values that fit
abbrev pub Agree : {X : Type 0} → (X → Type 0) → (X → Bool) → (X → Bool) → Type 0
Agree {X} Fit S T = (s : X) → Fit s → S s ≡ T s

module _ {X : Type 0} (out : ℕ → X → X → X) (may : ℕ → X → X → Bool) (results : ℕ → X → X → List X) where
  abbrev goal : ℕ → X → (X → Bool) → X → Bool
  goal = goal_by out may results

  -- by a fetch that wins, else by reading
  module _ (c : ℕ) (v : X) (S : X → Bool) (r : X) where
    pub goal_fetched : (may c v r && all S (results c v r)) ≡ true → goal c v S r ≡ true
    unfolding goal_by
    goal_fetched e = ap (λ b. S (out c v r) || b) e ∙ or-true (S (out c v r))

    pub goal_read : (may c v r && all S (results c v r)) ≡ false → goal c v S r ≡ S (out c v r)
    unfolding goal_by
    goal_read e = ap (λ b. S (out c v r) || b) e ∙ or-false (S (out c v r))

  -- more values after an element give more in its goal, and more after a forest give more before it
  goal_more : (c : ℕ) (v : X) (S T : X → Bool) → ((s : X) → S s ≡ true → T s ≡ true) → (r : X) → goal c v S r ≡ true → goal c v T r ≡ true
  unfolding goal_by
  goal_more c v S T h r k =
      let m = may c v r in
      let l = results c v r in
      ⊎_elim
      (λ x. ap (λ b. b || (m && all T l)) (h (out c v r) x))
      (λ x. let y = and_both m (all S l) x in
      goal_fetched c v T r (ap (λ b. b && all T l) y.0 ∙ all_more S T h l y.1))
      ((or_either (S (out c v r)) (m && all S l)).0 k)

  pub before_more : (into : ℕ → X → X) (f : Forest) (S T : X → Bool) → ((s : X) → S s ≡ true → T s ≡ true) → (v : X) →
      before into goal f S v ≡ true → before into goal f T v ≡ true
  before_more into none S T h v e = h v e
  before_more into (elem c f g) S T h v e =
      before_more into f _ _ (goal_more c v (before into goal g S) (before into goal g T) (before_more into g S T h)) (into c v) e

-- what holds of the values that fit, where the results are listed
module _ (R : Rule) (L : Listed R) where
  abbrev fetch_set : ℕ → R.Val → R.Val → (R.Val → Bool) → Bool
  fetch_set c v r S = R.may c v r && all S (L.results c v r)

  abbrev B : Forest → (R.Val → Bool) → R.Val → Bool
  B = before R.into (rule_goal R L)

  result_fits : (c : ℕ) (v r s : R.Val) → L.Fit v → L.Fit r → R.may c v r ≡ true → Memᴰ s (L.results c v r) → L.Fit s
  result_fits c v r s hv hr m i = let (u, l, e) = L.sound c v r s hv hr m i in subst L.Fit e (L.fit_reply c v r u hv hr m l)

  pub fetch_agrees : (c : ℕ) (v r : R.Val) (S T : R.Val → Bool) → L.Fit v → L.Fit r → Agree L.Fit S T →
      fetch_set c v r S ≡ fetch_set c v r T
  fetch_agrees c v r S T hv hr same =
      where_true (R.may c v r) _ _ (λ m. all_same S T (L.results c v r) (λ s i. same s (result_fits c v r s hv hr m i)))

  pub goal_agrees : (c : ℕ) (v : R.Val) (S T : R.Val → Bool) → L.Fit v → Agree L.Fit S T →
      Agree L.Fit (rule_goal R L c v S) (rule_goal R L c v T)
  unfolding goal_by
  goal_agrees c v S T hv same r hr =
      ap (λ b. b || fetch_set c v r S) (same (R.out c v r) (L.fit_out c v r hv hr)) ∙
      ap (λ b. T (R.out c v r) || b) (fetch_agrees c v r S T hv hr same)

  pub before_agrees : (f : Forest) (S T : R.Val → Bool) → Agree L.Fit S T → Agree L.Fit (B f S) (B f T)
  before_agrees none S T same v hv = same v hv
  before_agrees (elem c f g) S T same v hv =
      before_agrees f (rule_goal R L c v (B g S)) (rule_goal R L c v (B g T))
      (goal_agrees c v (B g S) (B g T) hv (before_agrees g S T same)) (R.into c v) (L.fit_into c v hv)

  -- where each fetch that is allowed has a lawful reply, the goal of everything is everything, and that of nothing is nothing; so it is
  -- before a forest
  module _ (answered : (c : ℕ) (v r : R.Val) → R.may c v r ≡ true → (u : Word) × R.Lawful c u) where
    goal_same : (b : Bool) (c : ℕ) (v : R.Val) (S : R.Val → Bool) → L.Fit v → Agree L.Fit S (λ s. b) →
        Agree L.Fit (rule_goal R L c v S) (λ r. b)
    unfolding goal_by
    goal_same true c v S hv same r hr = ap (λ b. b || fetch_set c v r S) (same (R.out c v r) (L.fit_out c v r hv hr))
    goal_same false c v S hv same r hr =
        let none-won : R.may c v r ≡ true → all S (L.results c v r) ≡ false =
        λ m. let (u, l) = answered c v r m in
        all_but S (L.complete c v r u hv hr m l) (same (R.reply c v r u) (L.fit_reply c v r u hv hr m l)) in
        ap (λ b. b || fetch_set c v r S) (same (R.out c v r) (L.fit_out c v r hv hr)) ∙
        where_true (R.may c v r) _ false none-won ∙ and-false (R.may c v r)

    pub before_same : (b : Bool) (f : Forest) (S : R.Val → Bool) → Agree L.Fit S (λ s. b) → Agree L.Fit (B f S) (λ v. b)
    before_same b none S same v hv = same v hv
    before_same b (elem c f g) S same v hv =
        before_same b f (rule_goal R L c v (B g S)) (goal_same b c v (B g S) hv (before_same b g S same)) (R.into c v) (L.fit_into c v hv)

-- what is won before two forests is won before the first, if what is won before the second is won after it
pub before_joined : {X : Type 0} (into : ℕ → X → X) (goal : ℕ → X → (X → Bool) → X → Bool) (f h : Forest) (S : X → Bool) (v : X) →
    before into goal (joined f h) S v ≡ before into goal f (before into goal h S) v
before_joined into goal none h S v = refl
before_joined into goal (elem c f g) h S v =
    ap (λ T. before into goal f (goal c v T) (into c v)) (fun_ext (λ s. before_joined into goal g h S s))
