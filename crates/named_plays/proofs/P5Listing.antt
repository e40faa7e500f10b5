-- P5's listing (SPEC 9.8) is what the definitions give: a check settles it by computing on the bytes of the file.
use mathlib.Core.Path.{◌≡◌, refl, ap, subst}
use mathlib.Core.Bool.{true}
use mathlib.Core.Logic.{◌≢◌}
use mathlib.Core.List.{List, [], ◌∷◌, flat_map}
use Prim.Native.Nat.{ℕ, suc, ◌+◌, ◌<◌}
use native.Mathlib.Omega.{arith}
use Rattle.words.specs.Vocabulary.{vocabulary, fetchable}
use Rattle.automata.specs.Bits.{bit}
use Rattle.automata.specs.Target.{Target}
use Rattle.automata.specs.TargetBody.{most_states, target_of, ValidTarget}
use Rattle.automata.specs.Reply.{Form}
use Rattle.automata.specs.ReplyBody.{form_of}
use Rattle.automata.proofs.TargetTables.{target_closed}
use Rattle.effects.specs.Effects.{Told}
use Rattle.effects.specs.declared.Shortest.{Shortest}
use Rattle.effects.specs.declared.Shortest.TheVariants.{Unreached, Tags, Longer}
use Rattle.contents.specs.Contents.{has_form, form_codes, form_entry, body_of, target_body}
use Rattle.contents.specs.Bodies.{file_of}
use Rattle.job.specs.File.{form_in}
use Rattle.game.specs.Job.{game_of}
use Rattle.named_plays.specs.NamedPlays.{play_file, p5}
use Rattle.named_plays.specs.Listing.{Line, Rising, LineRight, shown, ListingRight, p5_listing}
use Rattle.named_plays.proofs.Checks.{Check, never, always, less, at_most, same, is_true, gives, both, below, each_named}
use Rattle.named_plays.proofs.LeastReplies.{least_shown, listed_told}
use Rattle.named_plays.proofs.BodyChecks.{SampledForms, sampled_forms, target}

-- two tell the same
abbrev same_told : (a b : Shortest) → Check (a ≡ b)
same_told Unreached Unreached = always refl
same_told (Tags m) (Tags n) = gives (ap Tags) (same m n)
same_told Longer Longer = always refl
same_told Unreached (Tags n) = never
same_told Unreached Longer = never
same_told (Tags m) Unreached = never
same_told (Tags m) Longer = never
same_told Longer Unreached = never
same_told Longer (Tags n) = never

abbrev rising : (b : ℕ) (l : List (ℕ × ℕ)) → Check (Rising b l)
rising b [] = at_most b most_states
rising b ((s, n) ∷ l) = both (at_most b s) (rising (suc s) l)

module _ (file : List ℕ) where
  abbrev A : Target
  A = target_of (target_body file)

  abbrev F : ℕ → Form
  F = form_in file

  -- a line is of a code that has a form and of a state of the target; its states rise, and it says of each what the samples do
  abbrev LineComputed : Line → Type 0
  LineComputed l =
      (has_form l.code ≡ true) ×
      ((l.from < A.states) ×
      (Rising 0 l.reached × ((s : ℕ) → s < most_states → least_shown A (F l.code) l.from s ≡ shown l.reached s)))

  abbrev line_computed : (l : Line) → Check (LineComputed l)
  line_computed l =
      both (is_true (has_form l.code))
      (both (less l.from A.states)
      (both (rising 0 l.reached)
      (below (λ s. same_told (least_shown A (F l.code) l.from s) (shown l.reached s)) most_states)))

  line_right : ValidTarget (target_body file) × SampledForms file → (l : Line) → LineComputed l → LineRight file l
  unfolding game_of
  line_right (v, few) l (has, (from, (rises, is))) =
      let told : (s : ℕ) → Told A (F l.code) l.from s (least_shown A (F l.code) l.from s) =
      λ s. listed_told A (F l.code) (target_closed (target_body file) v) (few l.code has) l.from s from in
      record { rising = rises; least = λ s h. subst (λ x. Told A (F l.code) l.from s x) (is s h) (told s) }

-- absurd of a line: that it has no code and state; it is about their sum, since `omega` names only numbers that the goal mentions
abbrev Unplaced : Line → Type 0
Unplaced l = (code state : ℕ) → code ≡ l.code → code + state ≢ l.code + l.from

-- all lines pass
pub p5_listing_lem : ListingRight (play_file p5) p5_listing
unfolding p5_listing flat_map vocabulary fetchable bit game_of target_of form_of has_form form_codes form_entry body_of file_of
p5_listing_lem =
    let samples = both (target (target_body (play_file p5))) (sampled_forms (play_file p5)) in
    let computed = each_named (line_computed (play_file p5)) Unplaced (λ l h. h l.code l.from refl refl) p5_listing (omega arith) in
    record { whole = refl; right = λ l m. line_right (play_file p5) (samples.proves refl) l (computed l m) }
