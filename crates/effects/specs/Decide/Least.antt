-- How short a reply can be that reaches a state is found: for each number of tags from 0 on, all words of so many tags are tried. No
-- promise to an outsider cites this file.
use Rattle.std.specs.Prelude.{◌≡◌, refl, ◌⊎◌, ℕ, zero, suc, ◌+◌, ◌-◌, ◌<◌, length}
use Rattle.std.proofs.Common.{sym, ◌∙◌, ap, subst, inl, inr, ⊎_elim, arith, not-suc-le-zero}
use mathlib.Core.List.Memᴰ
use mathlib.Core.List.{List, [], ◌∷◌, ◌++◌, map, append_assoc, append-nil, Memᴰ}
use Rattle.std.proofs.Math.Decide.{map_dec, ℕ_discrete, dec_lt, dec_le}
use Rattle.words.specs.Decide.Deciders.{both?, some?}
use Rattle.words.specs.Lists.{tabulated}
use Rattle.words.specs.Tag.{Tag, opening, closing, code_of, tag_of, codes, tag_bytes, Word, IsCode}
use Rattle.words.specs.Forest.{Forest, none, elem, tags, Coded, WellNested}
use Rattle.words.proofs.Bytes.{tag_of_opening, tag_of_closing}
use Rattle.words.proofs.ListLaws.{tabulated_index}
use Rattle.automata.specs.Target.{Target, Closed, at, run}
use Rattle.automata.specs.Inner.TargetRead.{over}
use Rattle.automata.specs.Reply.{Form, Lawful}
use Rattle.automata.proofs.Lawful.{lawful?}
use Rattle.automata.proofs.TargetRun.{at_state, run_nested}
use Rattle.effects.specs.Effect.{Effect, Least, most_counted}
use Rattle.effects.specs.Effects.{Told}
use Rattle.effects.specs.Decide.Effect.{effect?}
use Rattle.effects.specs.Decide.Listing.{grid, in_grid}
use Rattle.effects.specs.declared.Shortest.{Shortest}
use Rattle.effects.specs.declared.Shortest.TheVariants.{Unreached, Tags, Longer}

all_tags : List Tag
all_tags = tabulated tag_of 0 tag_bytes

in_tags : (t : Tag) → IsCode (code_of t) → Memᴰ t all_tags
unfolding all_tags
in_tags (opening c) h = (tabulated_index tag_of tag_bytes (opening c)).1 (c, omega arith, sym (tag_of_opening c h))
in_tags (closing c) h =
    let same : codes + c - codes ≡ c = omega arith in
    let back = tag_of_closing (codes + c) (omega arith) ∙ ap closing same in
    (tabulated_index tag_of tag_bytes (closing c)).1 (codes + c, omega arith, sym back)

abbrev before : Tag × Word → Word
before x = x.0 ∷ x.1

-- all words of n tags
words_of : ℕ → List Word
words_of zero = [] ∷ []
words_of (suc n) = map before (grid all_tags (words_of n))

abbrev Listed : Word → Type 0
Listed w = Memᴰ w (words_of (length w))

listed_none : Listed []
unfolding words_of
listed_none = Memᴰ.head refl

listed_more : (t : Tag) (w : Word) → IsCode (code_of t) → Listed w → Listed (t ∷ w)
unfolding words_of
listed_more t w h m = Memᴰ.map before (in_grid (in_tags t h) m)

listed_tags : (f : Forest) → Coded f → (w : Word) → Listed w → Listed (tags f ++ w)
listed_tags none cf w m = m
listed_tags (elem c f g) (h, cf, cg) w m =
    let after = listed_more (closing c) (tags g ++ w) h (listed_tags g cg w m) in
    let inside = listed_tags f cf (closing c ∷ (tags g ++ w)) after in
    listed_more (opening c) ((tags f ++ closing c ∷ tags g) ++ w) h
    (subst Listed (sym (append_assoc (tags f) (closing c ∷ tags g) w)) inside)

listed_nested : (w : Word) → WellNested w → Listed w
listed_nested w n = subst Listed (append-nil (tags n.forest) ∙ n.spells) (listed_tags n.forest n.coded [] listed_none)

-- the first number with a property
module _ (P : ℕ → Type 0) (P? : (n : ℕ) → Dec (P n)) where
  abbrev NoneBelow : ℕ → Type 0
  NoneBelow n = (k : ℕ) → k < n → ¬ P k

  first_or_none : (n : ℕ) → ((m : ℕ) × P m × NoneBelow m) ⊎ NoneBelow n
  first_or_none zero = inr (λ k h. absurd (not-suc-le-zero h))
  first_or_none (suc n) =
      ⊎_elim inl
      (λ below. elim (P? n) [
        | yes p ↦ inl (n, p, below)
        | no m ↦ inr (λ k h. elim (ℕ_discrete k n) [ yes e ↦ rw e m | no d ↦ below k (omega arith) ])
      ])
      (first_or_none n)

  first : (n : ℕ) → P n → (m : ℕ) × P m × NoneBelow m
  first n p = ⊎_elim (λ x. x) (λ below. absurd (below n (omega arith) p)) (first_or_none (suc n))

module _ (A : Target) (F : Form) (q s : ℕ) where
  -- a lawful reply of n tags that reaches s
  abbrev Takes : ℕ → Word → Type 0
  Takes n w = (length w ≡ n) × (Lawful F w × (run A w (at q []) ≡ at s []))

  takes? : (n : ℕ) (w : Word) → Dec (Takes n w)
  takes? n w =
      both? (ℕ_discrete (length w) n) (elim (lawful? F w) [
        | no m ↦ no (λ x. m x.0)
        | yes l ↦
            let runs = run_nested A w l.nested q [] in
            map_dec (λ e. (l, runs ∙ ap (λ x. at x []) e)) (λ x. at_state (sym runs ∙ x.1)) (ℕ_discrete (over A l.nested.forest q) s)
      ])

  abbrev SomeOf : ℕ → Type 0
  SomeOf n = (w : Word) × Memᴰ w (words_of n) × Takes n w

  some_of? : (n : ℕ) → Dec (SomeOf n)
  some_of? n = some? (Takes n) (takes? n) (words_of n)

  effect_of : (e : Effect A F q s) → SomeOf (length e.reply)
  effect_of e = (e.reply, listed_nested e.reply e.lawful.nested, (refl, (e.lawful, e.reaches)))

  -- what is reached has a least number of tags
  pub least : Effect A F q s → (n : ℕ) × Least A F q s n
  least e =
      let (n, (w, m, (l, (k, r))), below) = first SomeOf some_of? (length e.reply) (effect_of e) in (
        n,
        record {
          one = record { reply = w; lawful = k; reaches = r };
          tags = l;
          fewest = λ d. elim (dec_lt (length d.reply) n) [
            | yes b ↦ absurd (below (length d.reply) b (effect_of d))
            | no g ↦ omega arith
          ];
        },
      )

  -- what is told of s at q
  pub tell : Closed A → q < A.states → (v : Shortest) × Told A F q s v
  tell closed h =
      elim (effect? A F closed q s h) [
        | no n ↦ (Unreached, n)
        | yes e ↦
            let (n, l) = least e in
            elim (dec_le n most_counted) [
              | yes k ↦ (Tags n, (k, l))
              | no m ↦ (Longer, record { one = e; more = λ d. let b = l.fewest d in omega arith })
            ]
      ]
