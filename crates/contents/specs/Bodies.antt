-- A job by its six bodies, and the one file that has them (SPEC 6.12).
use Rattle.std.specs.Prelude.{◌≡◌, true, ℕ, length}
use mathlib.Core.List.{List, [], ◌∷◌, ◌++◌, map, flat_map}
use Rattle.words.specs.Numbers.{two_bytes, AreBytes}
use Rattle.contents.specs.Contents.{role_kind, role_code, has_form, form_codes, target_body, reply_body, record_bytes}
use Rattle.contents.specs.declared.Role.{Role}
use Rattle.contents.specs.declared.Role.TheVariants.{Target, Form, Record}

-- the target's body, those of the forms by code, and the record's tags
pub record Bodies : Type 0 where
  pub target : List ℕ
  pub reply : ℕ → List ℕ
  pub tags : List ℕ

-- the bodies in a file
abbrev pub bodies_in : List ℕ → Bodies
bodies_in file = record { target = target_body file; reply = reply_body file; tags = record_bytes file }

-- the same six bodies: a code without a form has none
pub record SameBodies (a b : Bodies) : Type 0 where
  pub target : a.target ≡ b.target
  pub reply : (c : ℕ) → has_form c ≡ true → a.reply c ≡ b.reply c
  pub tags : a.tags ≡ b.tags

-- bodies of bytes, as tags are anyway
pub record ByteBodies (b : Bodies) : Type 0 where
  pub target : AreBytes b.target
  pub reply : (c : ℕ) → has_form c ≡ true → AreBytes (b.reply c)

-- a body and what it is for; the six in their order (SPEC 6.4)
pub record Labelled : Type 0 where
  pub role : Role
  pub body : List ℕ

abbrev pub labelled : Role → List ℕ → Labelled
labelled r b = record { role = r; body = b }

abbrev pub bodies_in_order : Bodies → List Labelled
bodies_in_order b =
    labelled Target b.target ∷
    (map (λ c. labelled (Form c) (b.reply c)) form_codes ++ (labelled Record b.tags ∷ []))

-- the bytes of its entry (SPEC 6.2), and its own
abbrev pub entry_for : Labelled → List ℕ
entry_for x = role_kind x.role ∷ role_code x.role ∷ two_bytes (length x.body)

abbrev pub body_for : Labelled → List ℕ
body_for x = x.body

-- a file: how many entries, the entries, their bodies (SPEC 6.2, 6.5); and the file of six bodies
abbrev pub file_with : List Labelled → List ℕ
file_with xs = two_bytes (length xs) ++ (flat_map entry_for xs ++ flat_map body_for xs)

unfoldable pub file_of : Bodies → List ℕ
file_of b = file_with (bodies_in_order b)
