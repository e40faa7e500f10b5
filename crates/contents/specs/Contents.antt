-- The contents of a job file: its entries and where the bodies lie (SPEC 6.2 to 6.5), and when they are valid (SPEC 7.12).
use Rattle.std.specs.Prelude.{◌≡◌, Bool, List, [], ◌∷◌, ◌++◌, map, ℕ, zero, suc, ◌+◌, ◌*◌, length}
use Rattle.words.specs.Tag.{codes}
use Rattle.words.specs.Lists.{picked, tabulated}
use Rattle.words.specs.Vocabulary.{fetchable}
use Rattle.words.specs.Numbers.{byte_at, two}
use Rattle.contents.specs.Part.{part}
use Rattle.contents.specs.declared.Role.{Role}
use Rattle.contents.specs.declared.Role.TheVariants.{Target, Form, Record}

abbrev pub entry_count : ℕ
entry_count = 6

-- the bytes of the number of entries, and of an entry; where entry i begins, and where the last one ends (SPEC 6.2)
abbrev pub count_bytes : ℕ
count_bytes = 2

abbrev pub entry_bytes : ℕ
entry_bytes = 4

abbrev pub entry_offset : ℕ → ℕ
entry_offset i = count_bytes + entry_bytes * i

abbrev pub contents_length : ℕ
contents_length = entry_offset entry_count

-- the kind and the code by which an entry says what it is for (SPEC 6.3)
abbrev pub role_kind : Role → ℕ
role_kind Target = 1
role_kind (Form c) = 2
role_kind Record = 3

abbrev pub role_code : Role → ℕ
role_code Target = 0
role_code (Form c) = c
role_code Record = 0

abbrev pub role_bytes : Role → List ℕ
role_bytes r = role_kind r ∷ role_code r ∷ []

-- what entry i says: what it is for, by its kind and code, and the length of its body
abbrev pub role_at : List ℕ → ℕ → List ℕ
role_at file i = byte_at file (entry_offset i) ∷ byte_at file (entry_offset i + 1) ∷ []

abbrev pub length_at : List ℕ → ℕ → ℕ
length_at file i = two file (entry_offset i + 2)

-- where the body of entry i begins: right after the one before (SPEC 6.5)
abbrev pub offset_at : List ℕ → ℕ → ℕ
offset_at file zero = contents_length
offset_at file (suc i) = offset_at file i + length_at file i

-- Which codes have a reply form. That is not to say that they can be fetched, though today it is the same.
unfoldable pub has_form : ℕ → Bool
has_form c = fetchable c

-- the codes that have a reply form, rising
unfoldable pub form_codes : List ℕ
form_codes = picked has_form 0 codes

-- what the entries are for, in their order (SPEC 6.4)
unfoldable pub roles : List Role
roles = Target ∷ (map Form form_codes ++ (Record ∷ []))

-- Refusal 12 is given to contents that are not this (SPEC 7.12): six entries, of which entry i is for the i-th of `roles`, and lengths that
-- add up.
pub record ValidContents (file : List ℕ) : Type 0 where
  pub count : two file 0 ≡ entry_count
  pub in_order : tabulated (role_at file) 0 entry_count ≡ map role_bytes roles
  pub fits : offset_at file entry_count ≡ length file

-- which entry is whose: the target's is the first; before that of a form are the target's and those of the forms of smaller codes, and
-- before the record's all others
abbrev pub target_entry : ℕ
target_entry = 0

unfoldable pub form_entry : ℕ → ℕ
form_entry c = suc (length (picked has_form 0 c))

unfoldable pub record_entry : ℕ
record_entry = suc (length form_codes)

-- the body of entry i
unfoldable pub body_of : List ℕ → ℕ → List ℕ
body_of file i = part file (offset_at file i) (length_at file i)

-- the target's body, that of the form of a code, and the record's, which are its tags
abbrev pub target_body : List ℕ → List ℕ
target_body file = body_of file target_entry

abbrev pub reply_body : List ℕ → ℕ → List ℕ
reply_body file c = body_of file (form_entry c)

abbrev pub record_bytes : List ℕ → List ℕ
record_bytes file = body_of file record_entry

-- the offsets of the bodies, by their entries
unfoldable pub offsets_of : List ℕ → List ℕ
offsets_of file = tabulated (offset_at file) 0 entry_count
