-- The effects of a form whose replies, of any length, do to the target what its replies of at most one empty element do. That they do is
-- checked rule by rule: an element around a sample and followed by a sample does what some sample does. So it goes by the runs over forests
-- that the crates of automata and effects have for themselves.
use mathlib.Core.Path.{◌≡◌, refl, sym, ◌∙◌, ap, subst}
use mathlib.Core.Bool.{Bool, true, false}
use mathlib.Core.Logic.{◌↔◌, ⊎_elim}
use mathlib.Core.List.{List, [], ◌∷◌, ◌++◌, Memᴰ}
use Prim.Native.Nat.{ℕ, ◌<◌, ◌≤◌}
use native.Mathlib.Omega.{arith}
use Rattle.words.specs.Tag.{Word, codes}
use Rattle.words.specs.Forest.{Forest, none, elem, tags, Coded}
use Rattle.words.proofs.ForestLong.{elements}
use Rattle.automata.specs.Target.{Target, Closed}
use Rattle.automata.specs.Inner.TargetRead.{over}
use Rattle.automata.specs.declared.reply.FormRule.{FormRule}
use Rattle.automata.specs.Reply.{rule, Form, Lawful}
use Rattle.effects.specs.Effect.{Effect}
use Rattle.automata.specs.Inner.ForestRun.{same_rule, Over, over_none, over_elem}
use Rattle.automata.proofs.ForestRun.{forest_lawful}
use Rattle.effects.specs.Inner.EffectForest.{effect_forest, forest_effect}
use Rattle.named_plays.proofs.Checks.{Check, less, same, is_true, both, if_same, below, each, some}

-- what a function lists at the members of a list
abbrev pub listed_at : {X Y : Type 0} → (X → List Y) → List X → List Y
listed_at f [] = []
listed_at f (x ∷ l) = f x ++ listed_at f l

from_listed : {X Y : Type 0} (f : X → List Y) (l : List X) {y : Y} → Memᴰ y (listed_at f l)
    → (x : X) × Memᴰ x l × Memᴰ y (f x)
from_listed f [] m = absurd (mathlib.Core.List.Memᴰ.not-nil m)
from_listed f (x ∷ l) m =
    ⊎_elim (λ h. (x, mathlib.Core.List.Memᴰ.head refl, h))
    (λ h. let r = from_listed f l h in (r.0, mathlib.Core.List.Memᴰ.tail r.1, r.2))
    (mathlib.Core.List.Memᴰ.append_cases (f x) m)

to_listed : {X Y : Type 0} (f : X → List Y) (l : List X) {x : X} {y : Y} → Memᴰ x l → Memᴰ y (f x)
    → Memᴰ y (listed_at f l)
to_listed f [] m h = elim m [ ]
to_listed f (z ∷ l) {x} {y} (mathlib.Core.List.Memᴰ.head e) h =
    mathlib.Core.List.Memᴰ.append_left (listed_at f l) (subst (λ a. Memᴰ y (f a)) e h)
to_listed f (z ∷ l) (mathlib.Core.List.Memᴰ.tail m) h = mathlib.Core.List.Memᴰ.append_right (f z) (to_listed f l m h)

-- one member, if a test holds
abbrev pub when : {X : Type 0} → Bool → X → List X
when true x = x ∷ []
when false x = []

from_when : {X : Type 0} (b : Bool) (x y : X) → Memᴰ y (when b x) → (b ≡ true) × (y ≡ x)
from_when true x y m = (refl, mathlib.Core.List.Memᴰ.eq_of_singleton m)
from_when false x y m = absurd (mathlib.Core.List.Memᴰ.not-nil m)

to_when : {X : Type 0} (b : Bool) (x : X) → b ≡ true → Memᴰ x (when b x)
to_when b x e = rw e (mathlib.Core.List.Memᴰ.head refl)

-- a forest and a state to which a run over it leads
pub record Sample : Type 0 where
  pub forest : Forest
  pub last : ℕ

abbrev pub sample : Forest → ℕ → Sample
sample f t = record { forest = f; last = t }

-- the rules make an empty element, from p on
abbrev Makes : ℕ → FormRule → FormRule → Type 0
Makes p o r = (o.state ≡ p) × ((r.state ≡ o.next) × ((r.kept ≡ o.kept) × ((r.code ≡ o.code) × (o.code < codes))))

abbrev makes : (p : ℕ) (o r : FormRule) → Check (Makes p o r)
makes p o r =
    both (same o.state p)
    (both (same r.state o.next) (both (same r.kept o.kept) (both (same r.code o.code) (less o.code codes))))

abbrev empty_element : FormRule → FormRule → Sample
empty_element o r = sample (elem o.code none none) r.next

module _ (F : Form) where
  -- the empty elements from p that an opening rule makes
  abbrev emptied : ℕ → FormRule → List Sample
  emptied p o = listed_at (λ r. when (makes p o r).passes (empty_element o r)) F.closings

  -- the samples from p: nothing, and each empty element
  abbrev pub samples : ℕ → List Sample
  samples p = sample none p ∷ listed_at (λ o. emptied p o) F.openings

  -- a sample is a run of the form from p, over one element at most
  abbrev SampleRan : ℕ → Sample → Type 0
  SampleRan p x = Coded x.forest × Over F p x.forest x.last × (elements x.forest ≤ 1)

  empty_ran : (p : ℕ) (o r : FormRule) → Memᴰ o F.openings → Memᴰ r F.closings → Makes p o r
      → SampleRan p (empty_element o r)
  empty_ran p o r m n (eq, (eb, (ek, (ec, h)))) =
      let m' : Memᴰ (rule p o.code o.next o.kept) F.openings = mathlib.Core.List.Memᴰ.cast (same_rule (sym eq) refl refl refl) m in
      let n' : Memᴰ (rule o.next o.code r.next o.kept) F.closings =
      mathlib.Core.List.Memᴰ.cast (same_rule (sym eb) (sym ec) refl (sym ek)) n in
      ((h, tt, tt), over_elem m' over_none n' over_none, omega arith)

  -- every sample is a run of the form
  pub sample_ran : (p : ℕ) (x : Sample) → Memᴰ x (samples p) → SampleRan p x
  sample_ran p x m =
      ⊎_elim (λ e. subst (SampleRan p) (sym e) (tt, over_none, omega arith)) (λ h. made (from_listed _ F.openings h))
      (mathlib.Core.List.Memᴰ.cases_cons m)
    where
      made : (o : FormRule) × Memᴰ o F.openings × Memᴰ x (emptied p o) → SampleRan p x
      made (o, i, h) =
          let (r, j, k) = from_listed _ F.closings h in
          let (e, is) = from_when (makes p o r).passes (empty_element o r) x k in
          subst (SampleRan p) (sym is) (empty_ran p o r i j ((makes p o r).proves e))

module _ (A : Target) where
  -- two forests do the same to every state of the target
  abbrev pub Alike : Forest → Forest → Type 0
  Alike f g = (q : ℕ) → q < A.states → over A f q ≡ over A g q

  abbrev alike : (f g : Forest) → Check (Alike f g)
  alike f g = below (λ q. same (over A f q) (over A g q)) A.states

  -- elements around and before forests that do the same do the same
  alike_elem : Closed A → (c : ℕ) (f f' g g' : Forest) → Alike f f' → Alike g g' → Alike (elem c f g) (elem c f' g')
  alike_elem k c f f' g g' e d q h =
      d (A.close_to (over A f (A.open_to q c)) q c) (k.close_below (over A f (A.open_to q c)) q c) ∙
      ap (λ r. over A g' (A.close_to r q c)) (e (A.open_to q c) (k.open_below q c))

  module _ (F : Form) where
    -- some sample from p leads to t and does what f does
    abbrev pub Like : ℕ → Forest → ℕ → Type 0
    Like p f t = (x : Sample) × Memᴰ x (samples F p) × ((x.last ≡ t) × Alike f x.forest)

    -- an element that the rules make, around a sample and followed by one, does what a sample does
    abbrev pub RulesAround : FormRule → FormRule → Type 0
    RulesAround o r =
        r.kept ≡ o.kept → r.code ≡ o.code → (i : Sample) → Memᴰ i (samples F o.next) → i.last ≡ r.state →
        (j : Sample) → Memᴰ j (samples F r.next) → Like o.state (elem o.code i.forest j.forest) j.last

    abbrev likes : (p : ℕ) (f : Forest) (t : ℕ) → Check (Like p f t)
    likes p f t = some (λ x. both (same x.last t) (alike f x.forest)) (samples F p)

    abbrev pub around : (o r : FormRule) → Check (RulesAround o r)
    around o r =
        let p = o.state in
        let c = o.code in
        let s = r.next in
        let after : (i : Sample) → Check ((j : Sample) → Memᴰ j (samples F s) → Like p (elem c i.forest j.forest) j.last) =
        λ i. each (λ j. likes p (elem c i.forest j.forest) j.last) (samples F s) in
        if_same r.kept o.kept (if_same r.code c (each (λ i. if_same i.last r.state (after i)) (samples F o.next)))

    abbrev pub Sampled : Type 0
    Sampled = (o : FormRule) → Memᴰ o F.openings → (r : FormRule) → Memᴰ r F.closings → RulesAround o r

    abbrev pub sampled : Check Sampled
    sampled = each (λ o. each (λ r. around o r) F.closings) F.openings

    module _ (k : Closed A) (all-sampled : Sampled) where
      -- where all elements made of samples do what samples do, every run does
      like : {p t : ℕ} {f : Forest} → Over F p f t → Like p f t
      like {p} over_none = (sample none p, mathlib.Core.List.Memᴰ.head refl, (refl, λ q h. refl))
      like {p} {t} (over_elem {c = c} {p = a} {k = k'} {r = b} {s = s} {f = f} {g = g} m o n o') =
          let (i, mi, (ei, si)) = like o in
          let (j, mj, (ej, sj)) = like o' in
          let (x, mx, (ex, sx)) = all-sampled (rule p c a k') m (rule b c s k') n refl refl i mi ei j mj in
          (x, mx, (ex ∙ ej, λ q h. alike_elem k c f i.forest g j.forest si sj q h ∙ sx q h))

    -- to which states the samples that are lawful replies take the target from q
    abbrev reached : ℕ → Sample → List ℕ
    reached q x = when (F.accepting x.last) (over A x.forest q)

    abbrev pub effect_of : ℕ → List ℕ
    effect_of q = listed_at (reached q) (samples F F.start)

    -- a lawful reply of one element at most that takes the target from q to s
    pub record Answer (q s : ℕ) : Type 0 where
      pub forest : Forest
      pub short : elements forest ≤ 1
      pub coded : Coded forest
      pub last : ℕ
      pub ran : Over F F.start forest last
      pub accepted : F.accepting last ≡ true
      pub reaches : over A forest q ≡ s

    -- what the samples reach is reached by such a reply
    pub effect_answer : (q s : ℕ) → Memᴰ s (effect_of q) → Answer q s
    effect_answer q s m =
        let (x, i, j) = from_listed (reached q) (samples F F.start) m in
        let (a, e) = from_when (F.accepting x.last) (over A x.forest q) s j in
        let (c, o, n) = sample_ran F F.start x i in
        record { forest = x.forest; short = n; coded = c; last = x.last; ran = o; accepted = a; reaches = sym e }

    -- where all rules pass the check, the effect is what the lawful samples reach
    pub effect_exact : Closed A → Sampled → (q s : ℕ) → q < A.states → Memᴰ s (effect_of q) ↔ Effect A F q s
    effect_exact k all-sampled q s h = (
      λ m.
          let x = effect_answer q s m in
          forest_effect A F (record { forest = x.forest; coded = x.coded; ran = x.ran; reaches = x.reaches }) x.accepted,
      λ e.
          let f = effect_forest A F q s e in
          let (x, i, (el, al)) = like k all-sampled f.ran in
          let there = to_when (F.accepting x.last) (over A x.forest q) (ap F.accepting el ∙ f.accepted) in
          mathlib.Core.List.Memᴰ.cast (sym f.reaches ∙ al q h) (to_listed (reached q) (samples F F.start) i there),
    )

-- some sample is a lawful reply
abbrev pub Answers : Form → Type 0
Answers F = (x : Sample) × Memᴰ x (samples F F.start) × (F.accepting x.last ≡ true)

abbrev pub some_answer : (F : Form) → Check (Answers F)
some_answer F = some (λ x. is_true (F.accepting x.last)) (samples F F.start)

-- a form with a sample that is accepted has a lawful reply
pub sample_answer : (F : Form) → Answers F → (w : Word) × Lawful F w
sample_answer F (x, m, a) = let (c, o, n) = sample_ran F F.start x m in (tags x.forest, forest_lawful F x.forest c o a)
