-- There is one file for six bodies (SPEC 6.12): accepted files with the same bodies are the same bytes, and six valid bodies have a file.
use mathlib.Core.Path.{◌≡◌, refl, sym, ◌∙◌, subst}
use mathlib.Core.Bool.{true}
use mathlib.Core.List.{List, ◌∷◌, ◌++◌, flat_map}
use Prim.Native.Nat.{ℕ, ◌<◌}
use native.Mathlib.Omega.{arith}
use lib.ListN.{length}
use Rattle.words.specs.Exactly.{Exactly}
use Rattle.words.specs.Vocabulary.{vocabulary, fetchable}
use Rattle.words.specs.Numbers.{AreBytes, two_bytes}
use Rattle.words.specs.IsWord.{WithinDepth}
use Rattle.words.proofs.ByteLists.{bytes_cons, bytes_join, bytes_each, two_are_bytes}
use Rattle.automata.specs.TargetBody.{ValidTarget}
use Rattle.automata.specs.ReplyBody.{ValidReply}
use Rattle.automata.proofs.TargetTables.{target_most}
use Rattle.automata.proofs.ReplyTables.{reply_most}
use Rattle.contents.specs.Contents.{role_kind, role_code, has_form, form_codes}
use Rattle.contents.specs.Bodies.{Bodies, bodies_in, SameBodies, ByteBodies, Labelled, labelled, bodies_in_order, entry_for, body_for}
use Rattle.contents.specs.Bodies.{file_of}
use Rattle.contents.proofs.SplitFile.{file_is}
use Rattle.contents.proofs.MadeFile.{file_contents, file_bodies, file_long, same_file}
use Rattle.contents.specs.declared.Role.TheVariants.{Target, Form, Record}
use Rattle.job.specs.Record.{most_record_depth}
use Rattle.job.specs.File.{file_refusal}
use Rattle.job.specs.Accepted.{ValidBodies}
use Rattle.job.proofs.Accepted.{is_accepted, file_not_refused}

-- the same bodies are valid alike
same_valid : (a b : Bodies) → SameBodies a b → ValidBodies b → ValidBodies a
same_valid a b s v =
    record {
      target = subst ValidTarget (sym s.target) v.target;
      reply = λ c t. subst ValidReply (sym (s.reply c t)) (v.reply c t);
      answered = λ c t. rw (s.reply c t) (v.answered c t);
      is_record = subst (WithinDepth most_record_depth) (sym s.tags) v.is_record;
    }

-- two accepted files with the same bodies
pub same_bytes : (f g : List ℕ) → AreBytes f → AreBytes g → file_refusal f ≡ 0 → file_refusal g ≡ 0 → SameBodies (bodies_in f) (bodies_in g)
    → f ≡ g
same_bytes f g bytes-f bytes-g ok_f ok-g s =
    file_is f (is_accepted f ok_f).contents bytes-f ∙ same_file (bodies_in f) (bodies_in g) s ∙
    sym (file_is g (is_accepted g ok-g).contents bytes-g)

-- an entry is of bytes if what it says is small enough
entry_bytes_lem : (x : Labelled) → role_kind x.role < 256 → role_code x.role < 256 → length x.body < 65536 → AreBytes (entry_for x)
entry_bytes_lem x k c h =
    let long = two_bytes (length x.body) in
    bytes_cons (role_kind x.role) (role_code x.role ∷ long) k (bytes_cons (role_code x.role) long c (two_are_bytes (length x.body) h))

-- the file of six valid bodies is accepted
pub file_accepted : (b : Bodies) → ValidBodies b → file_refusal (file_of b) ≡ 0
unfolding has_form fetchable vocabulary
file_accepted b v =
    let long = file_long b in
    let t = target_most b.target v.target in
    let r₁ = reply_most (b.reply 12) (v.reply 12 refl) in
    let r₂ = reply_most (b.reply 13) (v.reply 13 refl) in
    let r₃ = reply_most (b.reply 14) (v.reply 14 refl) in
    let r₄ = reply_most (b.reply 15) (v.reply 15 refl) in
    let s = v.is_record.word.short in
    file_not_refused (file_of b)
    (record {
      large_enough = omega arith;
      small_enough = omega arith;
      contents = file_contents b;
      bodies = same_valid (bodies_in (file_of b)) b (file_bodies b) v;
    })

-- six valid bodies of bytes
module _ (b : Bodies) (bytes : ByteBodies b) (v : ValidBodies b) where
  form_entry_bytes : (c : ℕ) → c < 256 → has_form c ≡ true → AreBytes (entry_for (labelled (Form c) (b.reply c)))
  form_entry_bytes c h t =
      let l = reply_most (b.reply c) (v.reply c t) in entry_bytes_lem (labelled (Form c) (b.reply c)) (omega arith) h (omega arith)

  target_entry_bytes : AreBytes (entry_for (labelled Target b.target))
  target_entry_bytes =
      let l = target_most b.target v.target in
      entry_bytes_lem (labelled Target b.target) (omega arith) (omega arith) (omega arith)

  record_entry_bytes : AreBytes (entry_for (labelled Record b.tags))
  record_entry_bytes =
      let l = v.is_record.word.short in
      entry_bytes_lem (labelled Record b.tags) (omega arith) (omega arith) (omega arith)

  tags_bytes : AreBytes b.tags
  tags_bytes i h = let k = v.is_record.word.bytes i h in omega arith

  file_bytes : AreBytes (file_of b)
  unfolding file_of form_codes has_form fetchable vocabulary
  file_bytes =
      let xs = bodies_in_order b in
      let entries = flat_map entry_for xs in
      let bodies = flat_map body_for xs in
      bytes_join (two_bytes (length xs)) (entries ++ bodies) (two_are_bytes (length xs) (omega arith))
      (bytes_join entries bodies
      (bytes_each entry_for xs (
        target_entry_bytes,
        (
          form_entry_bytes 12 (omega arith) refl,
          (
            form_entry_bytes 13 (omega arith) refl,
            (
              form_entry_bytes 14 (omega arith) refl,
              (
                form_entry_bytes 15 (omega arith) refl,
                (record_entry_bytes, tt),
              ),
            ),
          ),
        ),
      ))
      (bytes_each body_for xs
      (bytes.target, (bytes.reply 12 refl, (bytes.reply 13 refl, (bytes.reply 14 refl, (bytes.reply 15 refl, (tags_bytes, tt))))))))

  -- exactly one accepted file of bytes has them
  pub one_file : Exactly (λ file. AreBytes file × (file_refusal file ≡ 0) × SameBodies (bodies_in file) b)
  one_file =
      record {
        value = file_of b;
        right = (file_bytes, file_accepted b v, file_bodies b);
        only = λ f (bytes-f, ok, s). file_is f (is_accepted f ok).contents bytes-f ∙ same_file (bodies_in f) b s;
      }
