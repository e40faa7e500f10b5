-- The file of six bodies: its contents are valid, and it has these bodies. First of any six with any labels.
use mathlib.Core.Path.{◌≡◌, refl, sym, ◌∙◌, ap, ap₂}
use mathlib.Core.List.{List, [], ◌∷◌, ◌++◌, flat_map, append_assoc}
use Prim.Native.Nat.{ℕ, zero, suc, ◌+◌, ◌*◌, ◌<◌, ◌≤◌}
use native.Mathlib.Omega.{arith}
use lib.ListN.{length, take, drop, get_or, length-append, get_or-append, get_or-map}
use lib.Seq.{take-append_seam, drop-append-add, get_or-append-add}
use Rattle.words.specs.Vocabulary.{vocabulary, fetchable}
use Rattle.words.specs.Numbers.{byte_at, two, two_bytes}
use Rattle.words.proofs.ByteLists.{number_of}
use Rattle.contents.specs.Contents.{entry_count, count_bytes, entry_bytes, entry_offset, contents_length}
use Rattle.contents.specs.Contents.{role_bytes, role_at, length_at, offset_at, has_form, form_codes}
use Rattle.contents.specs.Contents.{roles, form_entry, record_entry, body_of, reply_body, ValidContents}
use Rattle.contents.specs.Bodies.{Bodies, bodies_in, SameBodies, Labelled, labelled, bodies_in_order, entry_for, body_for, file_with}
use Rattle.contents.specs.Bodies.{file_of}
use Rattle.contents.specs.Inner.Due.{due_role}
use Rattle.contents.specs.declared.Role.TheVariants.{Target, Form, Record}
use Rattle.contents.proofs.ContentLaws.{each_form, due_all, due_bytes}

abbrev none : Labelled
none = labelled Target []

-- the bytes of the entries: each has four
entries_long : (es : List Labelled) → length (flat_map entry_for es) ≡ entry_bytes * length es
unfolding flat_map
entries_long [] = refl
entries_long (e ∷ es) = length-append (entry_for e) (flat_map entry_for es) ∙ ap (λ n. entry_bytes + n) (entries_long es) ∙ omega arith

entry_byte : (es : List Labelled) (rest : List ℕ) (i j : ℕ) → i < length es → j < entry_bytes
    → get_or (flat_map entry_for es ++ rest) (entry_bytes * i + j) 0 ≡ get_or (entry_for (get_or es i none)) j 0
unfolding flat_map
entry_byte [] rest i j h l = absurd (omega arith)
entry_byte (e ∷ es) rest zero j h l =
    let n : entry_bytes * 0 + j ≡ j = omega arith in
    ap₂ (λ x k. get_or x k 0) (append_assoc (entry_for e) (flat_map entry_for es) rest) n ∙
    get_or-append (entry_for e) (flat_map entry_for es ++ rest) 0 j l
entry_byte (e ∷ es) rest (suc i) j h l =
    let n : entry_bytes * suc i + j ≡ entry_bytes + (entry_bytes * i + j) = omega arith in
    ap₂ (λ x k. get_or x k 0) (append_assoc (entry_for e) (flat_map entry_for es) rest) n ∙
    get_or-append-add (entry_for e) (flat_map entry_for es ++ rest) (entry_bytes * i + j) 0 ∙ entry_byte es rest i j (omega arith) l

-- how many bytes of bodies stand before the body of entry i
abbrev offset : List Labelled → ℕ → ℕ
offset es zero = 0
offset [] (suc i) = 0
offset (e ∷ es) (suc i) = length (body_for e) + offset es i

offset_more : (es : List Labelled) (i : ℕ) → i < length es → offset es (suc i) ≡ offset es i + length (body_for (get_or es i none))
offset_more [] i h = absurd (omega arith)
offset_more (e ∷ es) zero h = omega arith
offset_more (e ∷ es) (suc i) h = let k = offset_more es i (omega arith) in omega arith

offset_all : (es : List Labelled) → offset es (length es) ≡ length (flat_map body_for es)
unfolding flat_map
offset_all [] = refl
offset_all (e ∷ es) = ap (λ n. length (body_for e) + n) (offset_all es) ∙ sym (length-append (body_for e) (flat_map body_for es))

at_offset : (es : List Labelled) (i : ℕ) → i < length es
    → drop (offset es i) (flat_map body_for es) ≡ body_for (get_or es i none) ++ flat_map body_for (drop (suc i) es)
unfolding flat_map
at_offset [] i h = absurd (omega arith)
at_offset (e ∷ es) zero h = refl
at_offset (e ∷ es) (suc i) h = drop-append-add (body_for e) (flat_map body_for es) (offset es i) ∙ at_offset es i (omega arith)

-- six of them, and their file
module _ (es : List Labelled) (six : length es ≡ entry_count) where
  abbrev head : List ℕ
  head = two_bytes (length es) ++ flat_map entry_for es

  abbrev made : List ℕ
  made = file_with es

  made_byte : (p i j : ℕ) → p ≡ count_bytes + (entry_bytes * i + j) → i < entry_count → j < entry_bytes
      → byte_at made p ≡ get_or (entry_for (get_or es i none)) j 0
  made_byte p i j e h l =
      ap (byte_at made) e ∙ get_or-append-add (two_bytes (length es)) (flat_map entry_for es ++ flat_map body_for es) (entry_bytes * i + j)
      0 ∙
      entry_byte es (flat_map body_for es) i j (rw six h) l

  made_role : (i : ℕ) → i < entry_count → role_at made i ≡ role_bytes (get_or es i none).role
  made_role i h =
      let k = made_byte (entry_offset i) i 0 (omega arith) h (omega arith) in
      let c = made_byte (entry_offset i + 1) i 1 (omega arith) h (omega arith) in
      λ t. k t ∷ c t ∷ []

  made_length : (i : ℕ) → i < entry_count → length_at made i ≡ length (body_for (get_or es i none))
  made_length i h =
      let low = made_byte (entry_offset i + 2) i 2 (omega arith) h (omega arith) in
      let high = made_byte (entry_offset i + 2 + 1) i 3 (omega arith) h (omega arith) in
      ap₂ (λ a b. a + 256 * b) low high ∙ number_of (length (body_for (get_or es i none)))

  made_offset : (i : ℕ) → i ≤ entry_count → offset_at made i ≡ contents_length + offset es i
  made_offset zero h = refl
  made_offset (suc i) h =
      let p = made_offset i (omega arith) in
      let l = made_length i (omega arith) in
      let o = offset_more es i (rw six h) in
      ap₂ ◌+◌ p l ∙ omega arith

  head_long : length head ≡ contents_length
  head_long = length-append (two_bytes (length es)) (flat_map entry_for es) ∙ ap (λ n. count_bytes + n) (entries_long es) ∙
      ap entry_offset six

  joined : made ≡ head ++ flat_map body_for es
  joined = sym (append_assoc (two_bytes (length es)) (flat_map entry_for es) (flat_map body_for es))

  made_body : (i : ℕ) → i < entry_count → body_of made i ≡ body_for (get_or es i none)
  unfolding body_of
  made_body i h =
      let b = body_for (get_or es i none) in
      let there : drop (offset_at made i) made ≡ b ++ flat_map body_for (drop (suc i) es) =
      ap₂ drop (made_offset i (omega arith) ∙ ap (λ n. n + offset es i) (sym head_long)) joined ∙
      drop-append-add head (flat_map body_for es) (offset es i) ∙ at_offset es i (rw six h) in
      ap₂ take (made_length i h) there ∙ take-append_seam b (flat_map body_for (drop (suc i) es))

  made_long : length made ≡ contents_length + offset es entry_count
  made_long =
      ap length joined ∙ length-append head (flat_map body_for es) ∙
      ap₂ ◌+◌ head_long (sym (offset_all es) ∙ ap (offset es) six)

  made_fits : offset_at made entry_count ≡ length made
  made_fits = made_offset entry_count (omega arith) ∙ sym made_long

-- of the six bodies of a job
module _ (b : Bodies) where
  six : length (bodies_in_order b) ≡ entry_count
  unfolding form_codes has_form fetchable vocabulary
  six = refl

  in_roles : (i : ℕ) → i < entry_count → role_bytes (get_or (bodies_in_order b) i none).role ≡ due_role i
  unfolding roles form_codes has_form fetchable vocabulary
  in_roles i h = ap role_bytes (sym (get_or-map (λ (e : Labelled). e.role) (bodies_in_order b) i none)) ∙ sym (due_bytes i h)

  counted : two (file_of b) 0 ≡ entry_count
  unfolding file_of form_codes has_form fetchable vocabulary
  counted = refl

  pub file_contents : ValidContents (file_of b)
  unfolding file_of
  file_contents =
      record {
        count = counted;
        in_order = due_all (file_of b) (λ i h. made_role (bodies_in_order b) six i h ∙ in_roles i h);
        fits = made_fits (bodies_in_order b) six;
      }

  pub file_bodies : SameBodies (bodies_in (file_of b)) b
  unfolding file_of form_codes has_form fetchable vocabulary form_entry record_entry
  file_bodies =
      let body = made_body (bodies_in_order b) six in
      record {
        target = body 0 (omega arith);
        reply =
            each_form (λ c. reply_body (file_of b) c ≡ b.reply c) (body 1 (omega arith)) (body 2 (omega arith)) (body 3 (omega arith))
            (body 4 (omega arith));
        tags = body 5 (omega arith);
      }

  pub file_long : length (file_of b) ≡ contents_length + (length b.target + (length (b.reply 12) + (length (b.reply 13) +
      (length (b.reply 14) + (length (b.reply 15) + (length b.tags + 0))))))
  unfolding file_of form_codes has_form fetchable vocabulary
  file_long = made_long (bodies_in_order b) six

-- the same bodies make the same file
module _ (a b : Bodies) (s : SameBodies a b) where
  same_order : bodies_in_order a ≡ bodies_in_order b
  unfolding form_codes has_form fetchable vocabulary
  same_order i =
      labelled Target (s.target i) ∷
      labelled (Form 12) (s.reply 12 refl i) ∷
      labelled (Form 13) (s.reply 13 refl i) ∷
      labelled (Form 14) (s.reply 14 refl i) ∷
      labelled (Form 15) (s.reply 15 refl i) ∷
      labelled Record (s.tags i) ∷
      []

  pub same_file : file_of a ≡ file_of b
  unfolding file_of
  same_file = ap file_with same_order
