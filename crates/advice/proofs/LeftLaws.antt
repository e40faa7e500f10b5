-- What is left of a record, with the kept states of the open elements: it can be asked for at the next tag, and past the innermost element.
use mathlib.Core.Path.{◌≡◌, refl, ap, subst}
use mathlib.Core.List.{List, [], ◌∷◌}
use Prim.Native.Nat.{ℕ, zero, suc, ◌+◌, ◌-◌, ◌<◌, ◌≤◌}
use native.Mathlib.Omega.{arith}
use native.Mathlib.Decide.{ℕ_discrete}
use native.Mathlib.Nat.{not-suc-le-zero}
use native.Mathlib.Numerals.{add-one}
use lib.ListN.{length, take, drop, get_or, set, length-drop}
use lib.Seq.{get_or-drop, take_all, get_or-set_same, get_or-set_other}
use Rattle.words.specs.Stack.{newest_first}
use Rattle.words.specs.Tag.{opening, closing, codes, word_of}
use Rattle.words.specs.Decide.Words.{TagBytes}
use Rattle.words.proofs.StackLaws.{length_newest}
use Rattle.words.proofs.Bytes.{tag_of_opening, tag_of_closing}
use Rattle.automata.specs.Reply.{Form}
use Rattle.automata.specs.Target.{at}
use Rattle.automata.specs.TargetBody.{target_of}
use Rattle.job.specs.Record.{most_record_depth}
use Rattle.advice.specs.Kept.{play_slots}
use Rattle.solver.specs.Inner.Evaluated.{Judgeable}
use Rattle.words.specs.Inner.Rest.{Rest}
use Rattle.advice.specs.Inner.WonFrom.{Left, LeftPast}
use Rattle.game.proofs.RuleGame.{AllFit}
use Rattle.game.proofs.HeldGame.{HeldFits}
use Rattle.solver.proofs.GamesWith.{game_with}
use Rattle.words.proofs.RestLaws.{rest_room, rest_opening, rest_closing}
use Rattle.words.proofs.Innermost.{Innermost}

-- the newest of the kept states, and those of the elements around
pub newest_first_lem : (kept : List ℕ) (d : ℕ) → 0 < d → newest_first kept d ≡ get_or kept (d - 1) 0 ∷ newest_first kept (d - 1)
newest_first_lem kept zero h = absurd (not-suc-le-zero h)
newest_first_lem kept (suc d) h = let e : suc d - 1 ≡ d = omega arith in rw e refl

-- kept states that are below n, newest first
pub kept_below : (n : ℕ) (kept : List ℕ) (d : ℕ) → ((i : ℕ) → i < d → get_or kept i 0 < n) → AllFit (λ k. k < n) (newest_first kept d)
kept_below n kept zero h = tt
kept_below n kept (suc d) h = (h d (omega arith), kept_below n kept d (λ i l. h i (omega arith)))

module _ {target sets rest kept : List ℕ} {depth : ℕ} (l : Left target sets rest kept depth) where
  pub left_fits : (forms : ℕ → Form) (q : ℕ) → q < (target_of target).states →
      HeldFits (game_with target forms) (word_of rest) (at q (newest_first kept depth))
  left_fits forms q h =
      (h, kept_below (target_of target).states kept depth l.kept_states, rw (length_newest kept depth) (most_record_depth, l.suffix))

-- `&s[i..]` is what is left after i elements
pub drop_whole : (s : List ℕ) (i : ℕ) → take (length s - i) (drop i s) ≡ drop i s
drop_whole s i = take_all (length s - i) (drop i s) (omega (arith, length-drop i s))

pub judgeable_drop : {target sets bytes : List ℕ} (i : ℕ) → Judgeable target sets bytes (length bytes) →
    Judgeable target sets (drop i bytes) (length (drop i bytes))
judgeable_drop {bytes = bytes} i a =
    let coded : TagBytes (drop i bytes) = λ k h. rw (get_or-drop i bytes k 0) (a.coded (i + k) (omega (arith, length-drop i bytes))) in
    record { answered = a.answered; coded = coded; within = omega arith }

-- what follows the innermost open element
pub left_outer : {target sets rest kept : List ℕ} {k j : ℕ} → Left target sets rest kept (suc k) →
    Innermost most_record_depth k rest j → Left target sets (drop (j + 1) rest) kept k
left_outer {j = j} l i =
    record { judgeable = judgeable_drop (j + 1) l.judgeable; suffix = i.outer; kept_states = λ n h. l.kept_states n (omega arith) }

-- the next tag is an opening tag: there is room to keep the state
pub left_opening : {target sets rest kept : List ℕ} {depth : ℕ} (q : ℕ) → Left target sets rest kept depth →
    0 < length rest → get_or rest 0 0 < codes → q < (target_of target).states → play_slots ≤ length kept →
    (word_of rest ≡ opening (get_or rest 0 0) ∷ word_of (drop 1 rest)) × (depth < play_slots) ×
    Left target sets (drop 1 rest) (set kept depth q) (depth + 1)
left_opening {rest = []} q l some h hq room = absurd (omega arith)
left_opening {target} {sets} {rest = b ∷ rest} {kept = kept} {depth = depth} q l some h hq room =
    let e : word_of (b ∷ rest) ≡ opening b ∷ word_of rest = ap (λ t. t ∷ word_of rest) (tag_of_opening b h) in
    let s = rest_opening (subst (λ w. Rest most_record_depth depth w) e l.suffix) in
    let few : depth < play_slots = rest_room s in (
      e,
      few,
      record {
        judgeable = judgeable_drop 1 l.judgeable;
        suffix = rw (add-one depth) s;
        kept_states = λ i k. elim (ℕ_discrete i depth) [
          | yes x ↦ rw (x, get_or-set_same kept depth q 0 (omega arith)) hq
          | no n ↦ rw (get_or-set_other kept depth i q 0 n) (l.kept_states i (omega arith))
        ];
      },
    )

-- the next tag is a closing tag: an element is open
pub left_closing : {target sets rest kept : List ℕ} {depth : ℕ} → Left target sets rest kept depth →
    0 < length rest → codes ≤ get_or rest 0 0 →
    (word_of rest ≡ closing (get_or rest 0 0 - codes) ∷ word_of (drop 1 rest)) × LeftPast target sets (drop 1 rest) kept depth
left_closing {rest = []} l some h = absurd (omega arith)
left_closing {target} {sets} {rest = b ∷ rest} {kept = kept} {depth = depth} l some h =
    let e : word_of (b ∷ rest) ≡ closing (b - codes) ∷ word_of rest = ap (λ t. t ∷ word_of rest) (tag_of_closing b h) in
    let s = rest_closing (subst (λ w. Rest most_record_depth depth w) e l.suffix) in
    let less = s.1 in
    let same : s.0 ≡ depth - 1 = omega arith in (
      e,
      record {
        some_open = omega arith;
        few_open = rest_room l.suffix;
        newest_state = l.kept_states (depth - 1) (omega arith);
        around = record {
          judgeable = judgeable_drop 1 l.judgeable;
          suffix = subst (λ d. Rest most_record_depth d (word_of rest)) same s.2;
          kept_states = λ i k. l.kept_states i (omega arith);
        };
      },
    )
