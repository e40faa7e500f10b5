-- `job::loader::load` meets its contract: the size, the contents, then the bodies.
use mathlib.Core.Path.{◌≡◌, ◌∙◌, ap}
use mathlib.Core.Logic.{inl, inr, ⊎_elim}
use mathlib.Core.List.{List}
use Prim.Native.Nat.{ℕ, ◌≤◌}
use native.Mathlib.Omega.{arith}
use lib.ListN.{length}
use Rattle.std.specs.Prelude.{ok_or}
use Rattle.std.proofs.lemmas.Result.{err_from_is_err_and}
use Rattle.contents.specs.Contents.{contents_length}
use Rattle.job.specs.File.{largest_file, OutOfSize}
use Rattle.job.specs.declared.refusal.Refusal.TheVariants.{Contents}
use Rattle.job.proofs.LoadLaws.{refused_11, refused_12}
use Rattle.job.proofs.loader.load.Goals as goal

-- a file that passed both tests of its size
right_size : (file : List ℕ) → contents_length ≤ length file → length file ≤ largest_file → ¬ OutOfSize file
right_size file h k = ⊎_elim (λ x. omega arith) (λ x. omega arith)

pub returns-then-file-lt-CONTENTS_LENGTH : goal.returns-then-file-lt-CONTENTS_LENGTH
returns-then-file-lt-CONTENTS_LENGTH c = refused_11 _ (⊎_elim inl (λ x. inr x.1) c.then-file-lt-CONTENTS_LENGTH.either)

pub returns-in_err-offsets : goal.returns-in_err-offsets
returns-in_err-offsets c =
    let none = c.in_err-offsets.ensures.ok_part in
    let contents : c.in_err-offsets.field-0.0 ≡ Contents =
    let same = c.in_err-offsets.ensures.value ∙ ap (λ found. ok_or found Contents) none in cc in
    let p = err_from_is_err_and c.from_residual.result c.from_residual.ensures.1 in
    rw (p.1, p.2, contents)
    (refused_12 _ (right_size _ c.if-file-lt-CONTENTS_LENGTH.false c.if-file-gt-LARGEST.false) (rw none at c.locate.ensures))
