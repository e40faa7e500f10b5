-- The verdict on an accepted file, by the parts into which its record is cut.
use mathlib.Core.Path.{◌≡◌, refl, sym, subst}
use mathlib.Core.List.{List, [], ◌∷◌, append-nil}
use Prim.Native.Nat.{ℕ}
use native.Mathlib.Omega.{arith}
use Rattle.words.specs.Tag.{Word}
use Rattle.words.specs.Forest.{WellNested}
use Rattle.words.proofs.Cuts.{nested_closed, cut_nested}
use Rattle.job.specs.File.{file_refusal}
use Rattle.job.proofs.Accepted.{is_accepted}
use Rattle.game.specs.Job.{game_of, record_of}
use Rattle.game.specs.Verdict.{VerdictOf}
use Rattle.game.proofs.Answers.{yes_or_no_as}
use Rattle.game.proofs.Determined.{file_closed}
use Rattle.joining.specs.Joined.{IsCut, IsCutInto, VerdictJoined, VerdictByParts}
use Rattle.joining.proofs.Parts.{parts_nested}
use Rattle.joining.proofs.JoinedGame.{joining, joining_parts}

-- cuts before the first element and behind the last
cut_before : (w : Word) → IsCut w [] w
cut_before w = record { parts = refl; between = omega arith }

cut_behind : (w : Word) → WellNested w → IsCut w w []
cut_behind w n = let e = nested_closed n in record { parts = append-nil w; between = omega arith }

-- an accepted file and the answer for it
module _ (file : List ℕ) (r : ℕ) (answer : VerdictOf file r) (ok : file_refusal file ≡ 0) where
  record_nested : WellNested (record_of file)
  record_nested = (is_accepted file ok).bodies.is_record.word.nested

  pub verdict_joined : (u v : Word) → IsCut (record_of file) u v → VerdictJoined file u v r
  verdict_joined u v c =
      let (nu, nv) = (cut_nested u v (subst WellNested (sym c.parts) record_nested)).0 (omega (arith, c.between)) in
      let j = joining (game_of file) u v nu nv (file_closed file ok) in
      yes_or_no_as (rw c.parts at j.won) (rw c.parts at j.lost) (answer.given ok)

  -- with nothing in the first part, and with nothing in the second
  pub first_empty : VerdictJoined file [] (record_of file) r
  first_empty = verdict_joined [] (record_of file) (cut_before (record_of file))

  pub second_empty : VerdictJoined file (record_of file) [] r
  second_empty = verdict_joined (record_of file) [] (cut_behind (record_of file) record_nested)

  pub verdict_by_parts : (u : Word) (us : List Word) → IsCutInto (record_of file) (u ∷ us) → VerdictByParts file u us r
  verdict_by_parts u us c =
      let nested = parts_nested (u ∷ us) (subst WellNested (sym c.parts) record_nested) (λ w m. omega (arith, c.between w m)) in
      let j = joining_parts (game_of file) (file_closed file ok) u us nested in
      yes_or_no_as (rw c.parts at j.won) (rw c.parts at j.lost) (answer.given ok)
