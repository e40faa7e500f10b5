-- Words set end to end: what they make is well nested if each of them is, and each is if it is and no element is open between them.
use mathlib.Core.Path.{◌≡◌, refl, sym, subst}
use mathlib.Core.Logic.{⊎_elim}
use mathlib.Core.List.Memᴰ
use mathlib.Core.List.{List, [], ◌∷◌, Memᴰ}
use Rattle.words.specs.Tag.{Word}
use Rattle.words.specs.Forest.{WellNested}
use Rattle.words.specs.Opened.{open_after}
use Rattle.words.proofs.ForestJoined.{nested_none, nested_append}
use Rattle.words.proofs.Cuts.{cut_nested}
use Rattle.joining.specs.WinningStates.{end_to_end}

abbrev pub AllNested : List Word → Type 0
AllNested us = (u : Word) → Memᴰ u us → WellNested u

pub nested_parts : (us : List Word) → AllNested us → WellNested (end_to_end us)
nested_parts [] n = nested_none
nested_parts (u ∷ us) n = nested_append (n u (Memᴰ.head refl)) (nested_parts us (λ w m. n w (Memᴰ.tail m)))

pub parts_nested : (us : List Word) → WellNested (end_to_end us) → ((u : Word) → Memᴰ u us → open_after u 0 ≡ 0) → AllNested us
parts_nested [] n between u m = absurd (Memᴰ.not-nil m)
parts_nested (v ∷ us) n between u m =
    let (first, rest) = (cut_nested v (end_to_end us) n).0 (between v (Memᴰ.head refl)) in
    ⊎_elim (λ e. subst WellNested (sym e) first) (parts_nested us rest (λ w k. between w (Memᴰ.tail k)) u) (Memᴰ.cases_cons m)
