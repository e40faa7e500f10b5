-- A file of bytes whose contents are valid is the file of its bodies: each of its bytes belongs to the count, to an entry or to a body.
use mathlib.Core.Path.{◌≡◌, refl, sym, ◌∙◌, ap, ap₂}
use mathlib.Core.List.{List, [], ◌∷◌, ◌++◌, flat_map, append_assoc, append-nil}
use Prim.Native.Nat.{ℕ, zero, suc, ◌+◌, ◌<◌, ◌≤◌}
use native.Mathlib.Omega.{arith}
use native.Mathlib.Numerals.{add-one}
use native.Mathlib.Nat.{add-zero}
use lib.ListN.{length, take, drop, get_or, take-append-drop, length-drop}
use lib.Seq.{drop-length, drop-cons, drop-drop, take-add, length-take-le}
use Rattle.words.specs.Vocabulary.{vocabulary, fetchable}
use Rattle.words.specs.Numbers.{byte_at, AreBytes, two, two_bytes}
use Rattle.words.specs.Lists.{tabulated}
use Rattle.words.proofs.ByteLists.{bytes_of}
use Rattle.contents.specs.Part.{part}
use Rattle.contents.specs.Contents.{entry_count, entry_bytes, entry_offset, length_at, offset_at, has_form, form_codes, roles}
use Rattle.contents.specs.Contents.{form_entry, record_entry, body_of, ValidContents}
use Rattle.contents.specs.Bodies.{bodies_in, Labelled, labelled, bodies_in_order, entry_for, body_for, file_with, file_of}
use Rattle.contents.specs.declared.Role.TheVariants.{Target}
use Rattle.contents.proofs.ContentLaws.{due_at, due_bytes, contents_within, entry_within}

module _ (file : List ℕ) where
  -- what stands from an offset on is a part of some length and what follows it
  part_then : (at n : ℕ) → drop at file ≡ part file at n ++ drop (at + n) file
  part_then at n = sym (take-append-drop n (drop at file)) ∙ ap (λ l. part file at n ++ l) (drop-drop n at file)

  -- parts each of which begins where the one before it ends, as the bytes that f gives of e 0, e 1, ..
  module _ (offset len : ℕ → ℕ) (next : (i : ℕ) → offset (suc i) ≡ offset i + len i) {X : Type 0} (e : ℕ → X) (f : X → List ℕ) (m : ℕ)
      (is : (i : ℕ) → i < m → part file (offset i) (len i) ≡ f (e i)) where
    parts_then : (i n : ℕ) → i + n ≤ m → drop (offset i) file ≡ flat_map f (tabulated e i n) ++ drop (offset (i + n)) file
    unfolding flat_map
    parts_then i zero h = ap (λ k. drop (offset k) file) (sym (add-zero i))
    parts_then i (suc n) h =
        let rest : drop (offset i + len i) file ≡ flat_map f (tabulated e (suc i) n) ++ drop (offset (i + suc n)) file =
        ap (λ p. drop p file) (sym (next i)) ∙ parts_then (suc i) n (omega arith) ∙
        ap (λ k. flat_map f (tabulated e (suc i) n) ++ drop (offset k) file) (omega arith) in
        part_then (offset i) (len i) ∙ ap₂ (λ a b. a ++ b) (is i (omega arith)) rest ∙
        sym (append_assoc (f (e i)) (flat_map f (tabulated e (suc i) n)) (drop (offset (i + suc n)) file))

  two_part : (p : ℕ) → p + 2 ≤ length file → part file p 2 ≡ byte_at file p ∷ byte_at file (p + 1) ∷ []
  two_part p h =
      ap (take 2) (drop-cons file p 0 (omega arith) ∙ ap (λ l. byte_at file p ∷ l) (drop-cons file (suc p) 0 (omega arith))) ∙
      ap (λ k. byte_at file p ∷ byte_at file k ∷ []) (sym (add-one p))

  -- the body of entry i, and what is due there
  abbrev body_at : ℕ → Labelled
  body_at i = labelled (get_or roles i Target) (body_of file i)

  in_file : bodies_in_order (bodies_in file) ≡ tabulated body_at 0 entry_count
  unfolding roles form_codes has_form fetchable vocabulary form_entry record_entry
  in_file = refl

  module _ (v : ValidContents file) where
    body_long : (i : ℕ) → i < entry_count → length (body_of file i) ≡ length_at file i
    unfolding body_of
    body_long i h =
        let within = entry_within file v i h in
        length-take-le (length_at file i) (drop (offset_at file i) file) (rw (length-drop (offset_at file i) file) (omega arith))

    module _ (bytes : AreBytes file) where
      number_part : (p : ℕ) → p + 2 ≤ length file → part file p 2 ≡ two_bytes (two file p)
      number_part p h = two_part p h ∙ sym (bytes_of (byte_at file p) (byte_at file (p + 1)) (bytes p (omega arith)))

      entry_part : (i : ℕ) → i < entry_count → part file (entry_offset i) entry_bytes ≡ entry_for (body_at i)
      entry_part i h =
          let p = entry_offset i in
          let room : p + entry_bytes ≤ length file = let k = contents_within file v in omega arith in
          let role = two_part p (omega arith) ∙ due_at file v.in_order i h ∙ due_bytes i h in
          let long = number_part (p + 2) (omega arith) ∙ ap two_bytes (sym (body_long i h)) in
          take-add 2 2 (drop p file) ∙ ap (λ l. part file p 2 ++ take 2 l) (drop-drop 2 p file) ∙ ap₂ (λ a b. a ++ b) role long

      pub file_is : file ≡ file_of (bodies_in file)
      unfolding body_of file_of
      file_is =
          let es = tabulated body_at 0 entry_count in
          let count : part file 0 2 ≡ two_bytes entry_count =
          let k = contents_within file v in number_part 0 (omega arith) ∙ ap two_bytes v.count in
          let end : drop (offset_at file entry_count) file ≡ [] = ap (λ n. drop n file) v.fits ∙ drop-length file in
          let all : 0 + entry_count ≤ entry_count = omega arith in
          let entries =
          parts_then entry_offset (λ i. entry_bytes) (λ i. omega arith) body_at entry_for entry_count entry_part 0 entry_count all in
          let bodies =
          parts_then (offset_at file) (length_at file) (λ i. refl) body_at body_for entry_count (λ i h. refl) 0 entry_count all in
          let whole = entries ∙ ap (λ l. flat_map entry_for es ++ l) (bodies ∙ ap (λ l. flat_map body_for es ++ l) end ∙ append-nil _) in
          part_then 0 2 ∙ ap₂ (λ a b. a ++ b) count whole ∙ sym (ap file_with in_file)
