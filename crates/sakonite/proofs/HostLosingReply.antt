-- What the entry for the losing reply answers after calls that are all accepted, by what they spell. For any bytes one answer is right,
-- and which it is not.
use mathlib.Core.Path.{◌≡◌, refl, sym, ◌∙◌, ap, subst}
use mathlib.Core.Bool.{true, Bool-discrete}
use mathlib.Core.List.{List, [], ◌∷◌}
use Prim.Native.Nat.{ℕ, zero, suc, ◌<◌, ◌≤◌}
use native.Mathlib.Omega.{arith}
use native.Mathlib.Decide.{dec_lt, ℕ_discrete}
use lib.Dec.{lit<}
use lib.ListN.{length, get_or, length-map}
use Rattle.std.specs.Prelude.{Ok, Err}
use Rattle.words.specs.Exactly.{Exactly}
use Rattle.words.specs.Tag.{opening, tag_of}
use Rattle.contents.specs.Contents.{record_bytes}
use Rattle.job.specs.File.{file_refusal}
use Rattle.job.specs.Refusal.{first_of}
use Rattle.job.specs.RefusalNumber.{RefusedBy}
use Rattle.job.proofs.Accepted.{positive}
use Rattle.job.proofs.Refusals.{first_broken, passed_first}
use Rattle.effects.specs.Effect.{most_counted}
use Rattle.game.specs.Game.{allowed}
use Rattle.game.specs.Job.{game_of, record_of}
use Rattle.losing.specs.LosingReply.{FetchOutcome, keeps_won, lost_by}
use Rattle.play.specs.Play.{PlayFits}
use Rattle.play.specs.Moves.{MoveCall}
use Rattle.play_losing.specs.LosingAnswer.{tags_of, rule25, rule26, reply_rules, reply_refusal, fetch_asked_rules, FetchAsked}
use Rattle.play_losing.specs.LosingAnswer.{LosingAnswer, LosingReplyOf, losing_answer, losing_number, length_base}
use Rattle.play.specs.declared.Play.{Play}
use Rattle.play_losing.proofs.LosingReplyExactly.{losing_exactly}
use Rattle.play_losing.proofs.LosingAnswerLaws.{asked_22, asked_23, fetch_asked}
use Rattle.demand.specs.Demand.{SpellingAt, next_tag, NotAtEnd}
use Rattle.demand.specs.Replacing.{replacing_in}
use Rattle.demand.proofs.Demand3.{Reached, replacing_laws}
use Rattle.demand.proofs.OutcomeSpelled.{reached_same}
use Rattle.sakonite.specs.History.{written}
use Rattle.sakonite.specs.Played.{ample}
use Rattle.sakonite.specs.Entries.{history_refusal, play_at}
use Rattle.sakonite.specs.HostDemand.{spelled_in, AllAccepted}
use Rattle.sakonite.specs.LosingAfter.{LosingReplyAfter, HostLosingReply}
use Rattle.sakonite.proofs.AnswerLaws.{none_refused}
use Rattle.sakonite.proofs.HostDemand.{reached, play_is}
use Rattle.sakonite.proofs.NumberLaws.{first_has, history_each, advice_21}

-- an answer that is a refusal has its number
pub refused_number : (n : ℕ) → ¬ (n ≡ 0) → (s : LosingAnswer) → RefusedBy n s → losing_number s ≡ n
refused_number n z (Ok x) e = absurd (z e)
refused_number n z (Err r) e = sym e

-- a play that stands for what is spelled, and the answer to it
module _ (file : List ℕ) (ok : file_refusal file ≡ 0) (p : Play) (F : SpellingAt (replacing_in file)) (t : Reached file ok p F)
    (buffer : List ℕ) (s : LosingAnswer) (left : List ℕ) (o : LosingReplyOf file p buffer s left) where
  fits : PlayFits (game_of file).target (record_of file) p
  fits = t.sound.fits

  same_position : p.position ≡ F.position
  same_position = t.spells.position

  -- a refusal of what is asked for
  refused : (n : ℕ) → ¬ (n ≡ 0) → first_of (fetch_asked_rules file p) ≡ n → (losing_number s ≡ n) × (left ≡ buffer)
  refused n z e =
      let k : ¬ FetchAsked file p = λ x. z (sym e ∙ x) in
      (refused_number _ k s (o.refused k).0 ∙ e, (o.refused k).1)

  -- a fetch is allowed at a place of the record
  abbrev AllowedAt : ℕ → Type 0
  AllowedAt i = allowed (game_of file) (get_or (record_of file) i (opening 0)) ≡ true

  within : NotAtEnd (replacing_in file) F → p.position < length (record_bytes file)
  within l =
      let e = same_position in
      let k = length-map (record_bytes file) tag_of in
      omega arith

  reached_losing : HostLosingReply file F buffer (losing_number s) left
  reached_losing =
      let e = same_position in
      let k = length-map (record_bytes file) tag_of in
      record {
        at_end = λ l. refused 22 (positive 22 (lit< tt)) (asked_22 file p ok fits (omega arith));
        barred = λ l n.
            refused 23 (positive 23 (lit< tt))
            (asked_23 file p ok fits (within l) (subst (λ i. ¬ AllowedAt i) (sym e) n));
        asked = λ l may.
            let asked = fetch_asked file p ok fits (within l) (subst AllowedAt (sym e) may) in
            let (a, is-so, answer, bytes) = o.given asked in
            (a, (reached_same file ok p F t asked a).0 is-so, (s, answer, refl), bytes);
      }

pub host_losing : (file : List ℕ) (cs : List MoveCall) → AllAccepted file cs → (buffer : List ℕ) (r : ℕ) (left : List ℕ) →
    LosingReplyAfter file (written cs) buffer r left → HostLosingReply file (spelled_in file cs) buffer r left
unfolding replacing_laws
host_losing file cs acc buffer r left v =
    let ok = (none_refused file (written cs) ample acc).0 in
    let (s, o, e) = v.given acc in
    subst (λ n. HostLosingReply file (spelled_in file cs) buffer n left) (sym e)
    (reached_losing file ok (play_at file (written cs)) (spelled_in file cs)
    (subst (λ p. Reached file ok p (spelled_in file cs)) (sym (play_is file ok cs acc)) (reached file ok cs acc)) buffer s left o)

-- for every file, history and buffer exactly one number and one buffer are the answer
pub losing_after_exactly : (file history buffer : List ℕ) → Exactly (λ (x : ℕ × List ℕ). LosingReplyAfter file history buffer x.0 x.1)
losing_after_exactly file history buffer =
    elim (ℕ_discrete (history_refusal file history ample) 0) [
      | no n ↦
          record {
            value = (history_refusal file history ample, buffer);
            right = record { refused = λ _. (refl, refl); given = λ z. absurd (n z) };
            only = λ x v i. ((v.refused n).0 i, (v.refused n).1 i);
          }
      | yes z ↦
          let one = losing_exactly file (play_at file history) buffer in
          record {
            value = (losing_number one.value.0, one.value.1);
            right = record { refused = λ n. absurd (n z); given = λ _. (one.value.0, one.right, refl) };
            only = λ x v.
                let (s, o, e) = v.given z in
                let same = one.only (s, x.1) o in
                λ i. ((e ∙ ap (λ y. losing_number y.0) same) i, ap (λ y. y.1) same i);
          }
    ]

-- a number of a refusal comes from a rule that gives it
refused_by : (k n : ℕ) (a : FetchOutcome) (s : LosingAnswer) → 0 < k → k < length_base → losing_answer n a s → losing_number s ≡ k → n ≡ k
refused_by k zero keeps_won s p h r e = let z = sym (ap losing_number r) ∙ e in absurd (omega arith)
refused_by k zero (lost_by u) s p h r e = let z = sym (ap losing_number r) ∙ e in absurd (omega arith)
refused_by k (suc n) a s p h r e = sym (refused_number (suc n) (λ z. omega arith) s r) ∙ e

-- what the numbers have that it may give, the answer has
module _ (P : ℕ → Type 0) (file history buffer : List ℕ) (moves : P (history_refusal file history ample)) (end : P 22) (bars : P 23)
    (replied : (a : FetchOutcome) (s : LosingAnswer) → losing_answer (reply_refusal a (length buffer)) a s → P (losing_number s)) where
  accepted_has : (cs : List MoveCall) → AllAccepted file cs → (r : ℕ) (left : List ℕ) →
      LosingReplyAfter file (written cs) buffer r left → P r
  accepted_has cs acc r left v =
      let K = replacing_in file in
      let F = spelled_in file cs in
      let ok = (none_refused file (written cs) ample acc).0 in
      let h = host_losing file cs acc buffer r left v in
      let within = (replacing_laws file ok).within _ F (reached file ok cs acc) in
      elim (dec_lt F.position (length K.tags)) [
        | no n ↦ subst P (sym (h.at_end (omega arith)).0) end
        | yes l ↦
            elim (Bool-discrete (K.words.may (next_tag K F) F.spelling) true) [
              | no n ↦ subst P (sym (h.barred l n).0) bars
              | yes m ↦ let (a, _, (s, y, x), _) = h.asked l m in subst P (sym x) (replied a s y)
            ]
      ]

  answer_has : (r : ℕ) (left : List ℕ) → LosingReplyAfter file history buffer r left → P r
  answer_has r left v =
      elim (ℕ_discrete (history_refusal file history ample) 0) [
        | no n ↦ subst P (sym (v.refused n).0) moves
        | yes z ↦ let (cs, w) = (none_refused file history ample z).1 in accepted_has cs (rw w z) r left (rw w v)
      ]

-- 21 never comes out of the entry
pub losing_never_21 : (file history buffer : List ℕ) (r : ℕ) (left : List ℕ) → LosingReplyAfter file history buffer r left → ¬ (r ≡ 21)
losing_never_21 file history buffer =
    answer_has (λ i. ¬ (i ≡ 21)) file history buffer (advice_21 file history) (λ e. omega arith) (λ e. omega arith)
    (λ a s r e.
    first_has (λ i. ¬ (i ≡ 21)) (λ y. omega arith) (reply_rules a (length buffer)) (λ y. omega arith, (λ y. omega arith, tt))
    (refused_by 21 (reply_refusal a (length buffer)) a s (lit< tt) (lit< tt) r e))

-- a reply that is counted has room in a buffer for the longest
roomy_26 : (a : FetchOutcome) (room : ℕ) → most_counted ≤ room → ¬ (reply_refusal a room ≡ 26)
roomy_26 a room h e =
    elim (dec_lt most_counted (tags_of a)) [
      | yes l ↦ let x = first_broken (rule25 a) (rule26 a room ∷ []) l in omega arith
      | no n ↦ let x = passed_first (reply_rules a room) (n, (λ l. omega arith, tt)) in omega arith
    ]

-- a buffer of 4,096 bytes is always long enough
pub losing_room : (file history buffer : List ℕ) → most_counted ≤ length buffer → (r : ℕ) (left : List ℕ) →
    LosingReplyAfter file history buffer r left → ¬ (r ≡ 26)
losing_room file history buffer h =
    answer_has (λ i. ¬ (i ≡ 26)) file history buffer (history_each (λ i. ¬ (i ≡ 26)) (λ i l e. omega arith) file history ample)
    (λ e. omega arith) (λ e. omega arith)
    (λ a s r e. roomy_26 a (length buffer) h (refused_by 26 (reply_refusal a (length buffer)) a s (lit< tt) (lit< tt) r e))
