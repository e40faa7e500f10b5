-- The numbers of refusals: none is 0, and each is that of one refusal alone.
use mathlib.Core.Path.{◌≡◌, refl, sym, ◌∙◌, ap}
use mathlib.Core.List.{List, [], ◌∷◌}
use Prim.Native.Nat.{ℕ, ◌+◌}
use native.Mathlib.Omega.{arith}
use lib.ListN.{get_or}
use Rattle.job.specs.Refusal.{RefusalRule, first_of}
use Rattle.job.specs.RefusalNumber.{refusal_number}
use Rattle.job.specs.declared.refusal.Refusal.{Refusal}
use Rattle.job.specs.declared.refusal.Refusal.TheVariants.{FileSize, Contents, Target, ReplyForm, Record, RecordDeep, NoReply}
use Rattle.job.specs.declared.refusal.Refusal.TheVariants.{Reply, Unlawful, History, Play, AtEnd, NoFetch, Buffer, TooLong, NoRoom}
use Rattle.job.proofs.Refusals.{EachRule, Numbered, first_broken, first_kept}

-- from 11 on
abbrev by_number : List Refusal
by_number =
    FileSize ∷ Contents ∷ Target ∷ ReplyForm ∷ Record ∷ RecordDeep ∷ NoReply ∷ Reply ∷ Unlawful ∷ History ∷ Play ∷ AtEnd ∷ NoFetch ∷
    Buffer ∷ TooLong ∷ NoRoom ∷ []

numbered_from : (e : Refusal) → (i : ℕ) × (refusal_number e ≡ 11 + i) × (get_or by_number i FileSize ≡ e)
numbered_from FileSize = (0, refl, refl)
numbered_from Contents = (1, refl, refl)
numbered_from Target = (2, refl, refl)
numbered_from ReplyForm = (3, refl, refl)
numbered_from Record = (4, refl, refl)
numbered_from RecordDeep = (5, refl, refl)
numbered_from NoReply = (6, refl, refl)
numbered_from Reply = (7, refl, refl)
numbered_from Unlawful = (8, refl, refl)
numbered_from History = (9, refl, refl)
numbered_from Play = (10, refl, refl)
numbered_from AtEnd = (11, refl, refl)
numbered_from NoFetch = (12, refl, refl)
numbered_from Buffer = (13, refl, refl)
numbered_from TooLong = (14, refl, refl)
numbered_from NoRoom = (15, refl, refl)

pub number_positive : (e : Refusal) → refusal_number e ≡ 0 → ⊥
number_positive e z = let (i, n, _) = numbered_from e in omega arith

pub number_injective : (d e : Refusal) → refusal_number d ≡ refusal_number e → d ≡ e
number_injective d e s =
    let (i, n, a) = numbered_from d in
    let (j, m, b) = numbered_from e in
    let k : i ≡ j = omega arith in
    sym a ∙ ap (λ x. get_or by_number x FileSize) k ∙ b

-- each rule has the number of some refusal
abbrev pub Named : List RefusalRule → Type 0
Named = EachRule (λ r. (e : Refusal) × (r.number ≡ refusal_number e))

pub named_numbered : (rs : List RefusalRule) → Named rs → Numbered rs
named_numbered [] n = tt
named_numbered (r ∷ rs) n = (λ z. number_positive n.0.0 (sym n.0.1 ∙ z), named_numbered rs n.1)

-- what is refused has one of these numbers
pub named_first : (rs : List RefusalRule) → Named rs → (first_of rs ≡ 0 → ⊥) → (e : Refusal) × (first_of rs ≡ refusal_number e)
unfolding first_of
named_first [] n z = absurd (z refl)
named_first (r ∷ rs) n z =
    elim r.broken? [
      | yes b ↦ (n.0.0, first_broken r rs b ∙ n.0.1)
      | no k ↦ let (e, x) = named_first rs n.1 (λ y. z (first_kept r rs k ∙ y)) in (e, first_kept r rs k ∙ x)
    ]
