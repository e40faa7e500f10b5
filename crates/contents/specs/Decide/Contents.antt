-- The conditions on a file are decidable. A reader of the contracts needs only the types marked `pub`.
use mathlib.Core.List.{List-discrete}
use Rattle.std.specs.Prelude.{List, map, ℕ, length}
use Rattle.std.proofs.Math.Decide.{ℕ_discrete, map_dec}
use Rattle.words.specs.Decide.Deciders.{both?}
use Rattle.words.specs.Lists.{tabulated}
use Rattle.words.specs.Numbers.{two}
use Rattle.contents.specs.Contents.{entry_count, role_bytes, role_at, offset_at, roles, ValidContents}

pub valid_contents? : (file : List ℕ) → Dec (ValidContents file)
valid_contents? file =
    map_dec (λ (n, (o, l)). record { count = n; in_order = o; fits = l }) (λ v. (v.count, (v.in_order, v.fits)))
    (both? (ℕ_discrete (two file 0) entry_count)
    (both? (List-discrete (List-discrete ℕ_discrete) (tabulated (role_at file) 0 entry_count) (map role_bytes roles))
    (ℕ_discrete (offset_at file entry_count) (length file))))
