-- Laws of the contents: whether an entry is the one that is due, which is a form's, and where the bodies lie: each within the file, one
-- after the other without gaps.
use mathlib.Core.Path.{◌≡◌, refl, sym, ◌∙◌, ap, subst}
use mathlib.Core.Bool.{true}
use mathlib.Core.List.{List, [], ◌∷◌, map}
use Prim.Native.Nat.{ℕ, zero, suc, ◌+◌, ◌-◌, ◌<◌, ◌≤◌}
use native.Mathlib.Omega.{arith}
use native.Mathlib.Decide.{ℕ_discrete}
use native.Mathlib.Numerals.{add-one}
use native.Mathlib.Nat.{zero-add, add-zero, add-suc}
use borrow.Author.Tests.{leb-true}
use lib.Dec.{leb}
use lib.ListN.{length, get_or, get_or-map}
use lib.Seq.{ext_get_or}
use Rattle.words.specs.Lists.{tabulated}
use Rattle.words.specs.Tag.{IsCode}
use Rattle.words.specs.Vocabulary.{vocabulary, fetchable}
use Rattle.words.proofs.ListLaws.{tabulated_at}
use Rattle.words.proofs.Marks.{fetchable_rule, fetchable_code}
use Rattle.words.proofs.Truth.{and_both}
use Rattle.contents.specs.Contents.{entry_count, contents_length, role_bytes, role_at, length_at, offset_at}
use Rattle.contents.specs.Contents.{has_form, form_codes, roles, target_entry, form_entry, record_entry}
use Rattle.contents.specs.Contents.{offsets_of, ValidContents}
use Rattle.contents.specs.Inner.Due.{no_role, due_role}
use Rattle.contents.specs.declared.Role.TheVariants.{Target, Form, Record}

-- what has a form is a code, and what can be fetched has a form
pub form_code : (c : ℕ) → has_form c ≡ true → IsCode c
unfolding has_form
form_code c t = fetchable_code c t

pub fetchable_form : (c : ℕ) → fetchable c ≡ true → has_form c ≡ true
unfolding has_form
fetchable_form c t = t

-- the codes that have a form are 12 to 15
pub form_between : (c : ℕ) → has_form c ≡ true → (12 ≤ c) × (c ≤ 15)
unfolding has_form
form_between c t =
    let k = and_both (leb 12 c) (leb c 15) (sym (fetchable_rule c) ∙ t) in (leb-true 12 c k.0, leb-true c 15 k.1)

-- what holds at each of them holds of every code that has a form
pub each_form : (P : ℕ → Type 0) → P 12 → P 13 → P 14 → P 15 → (c : ℕ) → has_form c ≡ true → P c
each_form P p₁ p₂ p₃ p₄ c t =
    let (l, h) = form_between c t in
    elim (ℕ_discrete c 12) [
      | yes e ↦ rw e p₁
      | no n₁ ↦ elim (ℕ_discrete c 13) [
        | yes e ↦ rw e p₂
        | no n₂ ↦ elim (ℕ_discrete c 14) [
          | yes e ↦ rw e p₃
          | no n₃ ↦ let e : c ≡ 15 = omega arith in rw e p₄
        ]
      ]
    ]

-- these codes, as the code lists them
abbrev pub form_list : List ℕ
form_list = 12 ∷ 13 ∷ 14 ∷ 15 ∷ []

pub form_list_is : form_list ≡ form_codes
unfolding form_codes has_form fetchable vocabulary
form_list_is = refl

pub form_list_at : (i : ℕ) → i < length form_list → get_or form_list i 0 ≡ 12 + i
form_list_at zero h = refl
form_list_at (suc zero) h = refl
form_list_at (suc (suc zero)) h = refl
form_list_at (suc (suc (suc zero))) h = refl
form_list_at (suc (suc (suc (suc i)))) h = absurd (omega arith)

pub form_list_has : (i : ℕ) → i < length form_list → has_form (get_or form_list i 0) ≡ true
unfolding has_form fetchable vocabulary
form_list_has i h = grind arith

-- their entries are 1 to 4
pub form_entry_lem : (c : ℕ) → has_form c ≡ true → form_entry c + 11 ≡ c
unfolding form_entry has_form fetchable vocabulary
form_entry_lem = each_form (λ c. form_entry c + 11 ≡ c) refl refl refl refl

-- a list that goes by entries
module _ {A : Type 0} (f : ℕ → A) (d : A) where
  listed_at : (i : ℕ) → i < entry_count → get_or (tabulated f 0 entry_count) i d ≡ f i
  listed_at i h = rw zero-add at (tabulated_at f 0 entry_count i d h)

  listed_all : (l : List A) → length l ≡ entry_count → ((i : ℕ) → i < entry_count → get_or l i d ≡ f i) → l ≡ tabulated f 0 entry_count
  listed_all l long each =
      ext_get_or d l (tabulated f 0 entry_count) long (λ i h. let k : i < entry_count = omega arith in each i k ∙ sym (listed_at i k))

-- the roles in their order, entry by entry
abbrev due : List (List ℕ)
due = map role_bytes roles

module _ (file : List ℕ) where
  pub due_at : tabulated (role_at file) 0 entry_count ≡ due → (i : ℕ) → i < entry_count → role_at file i ≡ due_role i
  unfolding due_role
  due_at e i h = sym (listed_at (role_at file) no_role i h) ∙ ap (λ l. get_or l i no_role) e

  pub due_all : ((i : ℕ) → i < entry_count → role_at file i ≡ due_role i) → tabulated (role_at file) 0 entry_count ≡ due
  unfolding due_role roles form_codes has_form fetchable vocabulary
  due_all each = sym (listed_all (role_at file) no_role due refl (λ i h. sym (each i h)))

-- what is due at each entry, by its role
pub due_bytes : (i : ℕ) → i < entry_count → due_role i ≡ role_bytes (get_or roles i Target)
unfolding due_role roles form_codes has_form fetchable vocabulary
due_bytes zero h = refl
due_bytes (suc zero) h = refl
due_bytes (suc (suc zero)) h = refl
due_bytes (suc (suc (suc zero))) h = refl
due_bytes (suc (suc (suc (suc zero)))) h = refl
due_bytes (suc (suc (suc (suc (suc zero))))) h = refl
due_bytes (suc (suc (suc (suc (suc (suc i)))))) h = absurd (omega arith)

-- each body is looked for at an entry that is for it
pub entry_roles : (file : List ℕ) → ValidContents file → (role_at file target_entry ≡ role_bytes Target) ×
    ((c : ℕ) → has_form c ≡ true → role_at file (form_entry c) ≡ role_bytes (Form c)) × (role_at file record_entry ≡ role_bytes Record)
unfolding due_role roles form_codes form_entry record_entry has_form fetchable vocabulary
entry_roles file v =
    let each = due_at file v.in_order in (
      each 0 (omega arith),
      each_form (λ c. role_at file (form_entry c) ≡ role_bytes (Form c)) (each 1 (omega arith)) (each 2 (omega arith))
          (each 3 (omega arith)) (each 4 (omega arith)),
      each 5 (omega arith),
    )

pub offset_more : (file : List ℕ) (i : ℕ) → offset_at file (i + 1) ≡ offset_at file i + length_at file i
offset_more file i = rw (add-one i) refl

-- a later body begins where or after an earlier one ends
offsets_rise : (file : List ℕ) (i k : ℕ) → offset_at file i ≤ offset_at file (i + k)
offsets_rise file i zero = rw add-zero (omega arith)
offsets_rise file i (suc k) = let h = offsets_rise file i k in rw add-suc (omega arith)

module _ (file : List ℕ) (v : ValidContents file) where
  -- every body begins within the file
  offset_within : (i : ℕ) → i ≤ entry_count → offset_at file i ≤ length file
  offset_within i h =
      let e : i + (entry_count - i) ≡ entry_count = omega arith in
      subst (λ n. offset_at file i ≤ n) (ap (offset_at file) e ∙ v.fits) (offsets_rise file i (entry_count - i))

  -- the body of an entry lies within the file, which is longer than its contents
  pub entry_within : (i : ℕ) → i < entry_count → offset_at file i + length_at file i ≤ length file
  entry_within i h = offset_within (suc i) h

  pub contents_within : contents_length ≤ length file
  contents_within = offset_within 0 (omega arith)

-- an entry of a list of offsets is the offset of that body
pub offset_listed : (file at : List ℕ) (i : ℕ) → at ≡ offsets_of file → i < entry_count → get_or at i 0 ≡ offset_at file i
unfolding offsets_of
offset_listed file at i e h = ap (λ l. get_or l i 0) e ∙ listed_at (offset_at file) 0 i h

pub offsets_are : (file at : List ℕ) → length at ≡ entry_count → ((i : ℕ) → i < entry_count → get_or at i 0 ≡ offset_at file i)
    → at ≡ offsets_of file
unfolding offsets_of
offsets_are file at long each = listed_all (offset_at file) 0 at long each
