-- The losing reply: what is left after a closing tag, the refusals in their order, and the answer by what was found.
use mathlib.Core.Path.{◌≡◌, refl, sym, ◌∙◌, ap, subst}
use mathlib.Core.Bool.{true, Bool-discrete}
use mathlib.Core.HLevel.{dec→stable}
use mathlib.Core.Logic.{if_pos, if_neg}
use mathlib.Core.List.{List, [], ◌∷◌, map}
use Prim.Native.Nat.{ℕ, zero, suc, ◌+◌, ◌-◌, ◌<◌, ◌≤◌}
use native.Mathlib.Omega.{arith}
use native.Mathlib.Decide.{dec_lt, dec_le, ℕ_discrete}
use lib.Dec.{lit<}
use Rattle.std.specs.Prelude.{Some, Ok, Err}
use lib.ListN.{length, take, drop, get_or, length-drop, length-map}
use lib.Seq.{paste, drop-drop, get_or-drop}
use borrow.Author.Tests.{lt-ltb, le-ltb}
use Rattle.words.specs.Stack.{newest_first}
use Rattle.words.specs.Tag.{closing, codes, code_of, byte_of, tag_bytes, tag_of, word_of}
use Rattle.words.specs.Vocabulary.{fetchable}
use Rattle.words.specs.Inner.TagByte.{CodeIs}
use Rattle.words.proofs.Bytes.{tag_of_opening, tag_of_closing, tag_at_lem, word_drop}
use Rattle.automata.specs.Target.{at}
use Rattle.automata.specs.ReplyBody.{form_of}
use Rattle.effects.specs.Effect.{most_counted}
use Rattle.effects.specs.Inner.Sets.{sets_of}
use Rattle.effects.specs.declared.Effects.{Effects}
use Rattle.effects.specs.declared.Shortest.{Shortest}
use Rattle.effects.specs.declared.Shortest.TheVariants.{Unreached, Tags, Longer}
use Rattle.contents.specs.Contents.{target_body, reply_body, record_bytes}
use Rattle.job.specs.Refusal.{RefusalRule, first_of}
use Rattle.job.specs.File.{file_rules, file_refusal}
use Rattle.job.specs.Accepted.{Accepted}
use Rattle.job.specs.RefusalNumber.{refusal_number, RefusedBy}
use Rattle.job.specs.declared.refusal.Refusal.{Refusal}
use Rattle.job.specs.declared.refusal.Refusal.TheVariants.{Play as Unfit, AtEnd, NoFetch}
use Rattle.job.proofs.Accepted.{named, positive}
use Rattle.job.proofs.RefusalNumbers.{number_positive, Named, named_numbered}
use Rattle.job.proofs.Refusals.{Numbered, first_broken, first_kept, passed_first, first_passed}
use Rattle.job.proofs.Refusals.{append_passed, append_refused, append_each, append_parts}
use Rattle.game.specs.Game.{Game, allowed}
use Rattle.game.specs.Held.{held}
use Rattle.game.specs.Job.{game_of, record_of}
use Rattle.solver.specs.Inner.PlayedWith.{PlayedWith}
use Rattle.advice.specs.Inner.WonFrom.{LeftPast}
use Rattle.advice.proofs.LeftLaws.{drop_whole, left_closing}
use Rattle.losing.specs.LosingReply.{FetchOutcome, keeps_won, lost_by}
use Rattle.losing.specs.Inner.Found.{OutcomeFound}
use Rattle.play.specs.Play.{held_of, PlayFits}
use Rattle.play.specs.Moves.{tag_at}
use Rattle.fetching.specs.FetchRules.{FetchAllowed, rule23}
use Rattle.play.specs.MoveRules.{rule22}
use Rattle.play_advice.specs.Advice.{advice_rules, advice_refusal}
use Rattle.play_advice.specs.Inner.FileEffects.{FileEffects}
use Rattle.play_losing.specs.LosingAnswer.{tags_of, rule25, rule26, reply_rules, reply_refusal, fetch_asked_rules}
use Rattle.play_losing.specs.LosingAnswer.{FetchAsked, OutcomeAt, LosingAnswer, losing_answer, losing_buffer, LosingReplyOf}
use Rattle.play_losing.specs.Inner.Outcome.{answer_of, FoundAt, ReplyCounted}
use Rattle.play.specs.declared.Play.{Play}
use Rattle.fetching.proofs.FetchLaws.{closes_allowed, fetchable_closing, form_closing}
use Rattle.play_advice.proofs.AdviceRefusals.{unfit, advice_passed, advice_passes}
use Rattle.play_advice.proofs.PlayLeft.{left_play, plays_here}

-- the byte of a closing tag
module _ (bytes : List ℕ) (p : Play) (c : ℕ) (e : tag_at bytes p ≡ closing c) where
  abbrev byte : ℕ
  byte = get_or bytes p.position 0

  is_byte : tag_of byte ≡ closing c
  is_byte = sym (tag_at_lem bytes p.position) ∙ e

  pub closing_byte : codes ≤ byte
  closing_byte =
      elim (dec_lt byte codes) [
        | yes h ↦
            let o = tag_of_opening byte h in
            let i = is_byte in
            let z : ◌≡◌ {A = ℕ} 0 1 = cc in
            absurd (omega arith)
        | no n ↦ omega arith
      ]

  closing_code : c ≡ byte - codes
  closing_code = let x = tag_of_closing byte closing_byte in let i = is_byte in cc

-- the refusals where no fetch is allowed
module _ (file : List ℕ) (p : Play) where
  abbrev fetching : List RefusalRule
  fetching = rule22 (record_bytes file) p ∷ rule23 (game_of file) (tag_at (record_bytes file) p) ∷ []

  advice_named : Named (advice_rules file p)
  advice_named = append_each _ (file_rules file) (unfit file p ∷ []) (named file) ((Unfit, refl), tt)

  pub asked_named : Named (fetch_asked_rules file p)
  asked_named = append_each _ (advice_rules file p) fetching advice_named ((AtEnd, refl), ((NoFetch, refl), tt))

  advice_numbered : Numbered (advice_rules file p)
  advice_numbered = named_numbered (advice_rules file p) advice_named

  pub asked_numbered : Numbered (fetch_asked_rules file p)
  asked_numbered = named_numbered (fetch_asked_rules file p) asked_named

  -- what advice is refused for comes first
  pub asked_advice : (e : Refusal) → advice_refusal file p ≡ refusal_number e → first_of (fetch_asked_rules file p) ≡ refusal_number e
  unfolding advice_refusal
  asked_advice e k = append_refused (advice_rules file p) fetching (λ z. number_positive e (sym k ∙ z)) ∙ k

  module _ (ok : file_refusal file ≡ 0) where
    module _ (fits : PlayFits (game_of file).target (record_of file) p) where
      past_21 : first_of (fetch_asked_rules file p) ≡ first_of fetching
      unfolding advice_refusal
      past_21 =
          append_passed (advice_rules file p) fetching
          (first_passed (advice_rules file p) advice_numbered (advice_passes file ok p fits))

      pub asked_22 : p.position ≡ length (record_bytes file) → first_of (fetch_asked_rules file p) ≡ 22
      asked_22 e = past_21 ∙ first_broken (rule22 (record_bytes file) p) _ e

      module _ (left : p.position < length (record_bytes file)) where
        past_22 : first_of (fetch_asked_rules file p) ≡ first_of (rule23 (game_of file) (tag_at (record_bytes file) p) ∷ [])
        past_22 = past_21 ∙ first_kept (rule22 (record_bytes file) p) _ (λ e. omega arith)

        pub asked_23 : ¬ FetchAllowed (game_of file) (tag_at (record_bytes file) p) → first_of (fetch_asked_rules file p) ≡ 23
        asked_23 n = past_22 ∙ first_broken (rule23 (game_of file) (tag_at (record_bytes file) p)) [] n

        pub fetch_asked : FetchAllowed (game_of file) (tag_at (record_bytes file) p) → FetchAsked file p
        fetch_asked y = past_22 ∙ passed_first _ (λ n. n y, tt)

  -- where a fetch is allowed, the file is accepted, the play fits, and it stands at a tag that allows it
  pub asked_parts : FetchAsked file p →
      (file_refusal file ≡ 0) × PlayFits (game_of file).target (record_of file) p × (p.position < length (record_bytes file)) ×
      FetchAllowed (game_of file) (tag_at (record_bytes file) p)
  unfolding advice_refusal
  asked_parts z =
      let parts = append_parts (advice_rules file p) fetching (first_passed (fetch_asked_rules file p) asked_numbered z) in
      let accepted = advice_passed file p (passed_first (advice_rules file p) parts.0) in
      let end = parts.1.0 in
      let within = accepted.1.within in
      let l = length-map (record_bytes file) tag_of in (
        accepted.0,
        accepted.1,
        omega arith,
        dec→stable (Bool-discrete (allowed (game_of file) (tag_at (record_bytes file) p)) true) parts.1.1.0,
      )

-- Where a fetch is allowed, on an accepted file: `losing_from` can be asked, and what it finds is of the file's game.
module _ (file : List ℕ) (a : Accepted file) (E : Effects) (found : ∥ FileEffects file E ∥₁) (p : Play) (asked : FetchAsked file p) where
  abbrev bytes : List ℕ
  bytes = record_bytes file

  abbrev later : ℕ
  later = p.position + 1

  fits : PlayFits (game_of file).target (record_of file) p
  fits = (asked_parts file p asked).1

  pub asked_within : p.position < length bytes
  asked_within = (asked_parts file p asked).2

  pub asked_byte : get_or bytes p.position 0 < tag_bytes
  asked_byte = a.bodies.is_record.word.bytes p.position asked_within

  -- the next tag closes an element of the code that is read off it
  pub asked_closes : (c : ℕ) → CodeIs (get_or bytes p.position 0) c → tag_at bytes p ≡ closing c
  asked_closes c is = let t = tag_at_lem bytes p.position in
      t ∙ closes_allowed (game_of file) _ c is (sym (ap (λ x. allowed (game_of file) x) t) ∙ (asked_parts file p asked).3)

  module _ (c : ℕ) (e : tag_at bytes p ≡ closing c) where
    pub asked_fetchable : fetchable c ≡ true
    asked_fetchable = sym (fetchable_closing file _ c e) ∙ (asked_parts file p asked).3

    code_below : c < codes
    code_below =
        let k = closing_code bytes p c e in
        omega (arith, asked_byte)

    -- what is left after the tag
    after_closing : LeftPast (target_body file) (sets_of E) (drop later bytes) p.kept p.depth
    after_closing =
        let i = p.position in
        let some = asked_within in
        let first : get_or (drop i bytes) 0 0 ≡ get_or bytes i 0 = get_or-drop i bytes 0 0 ∙ ap (λ k. get_or bytes k 0) (omega arith) in
        let x = left_closing (left_play file a E found p fits) (omega (arith, length-drop i bytes)) (rw first (closing_byte bytes p c e)) in
        subst (λ r. LeftPast (target_body file) (sets_of E) r p.kept p.depth) (drop-drop 1 i bytes) x.1

    module _ {target sets lent form : List ℕ} (is-target : target ≡ target_body file) (is-sets : sets ≡ sets_of E)
        (is_record : lent ≡ record_bytes file) (is-form : form ≡ reply_body file c) where
      pub outcome_asked : LeftPast target sets (take (length lent - later) (drop later lent)) p.kept p.depth
      outcome_asked = rw (is-target, is-sets, is_record, drop_whole (record_bytes file) later) after_closing

      pub outcome_here : (buffer : List ℕ) (r : Shortest) (left : List ℕ) →
          ((G : Game) → PlayedWith G target sets → (c state : ℕ) → c < codes → fetchable c ≡ true → G.forms c ≡ form_of form →
          OutcomeFound (held G) (closing c) (word_of (take (length lent - later) (drop later lent)))
          (at state (newest_first p.kept p.depth)) buffer r left) →
          FoundAt file p buffer r left
      unfolding held_of
      outcome_here buffer r left x =
          let G = game_of file in
          let is-game = subst (λ t. G.forms (code_of t) ≡ form_of form) e (form_closing file _ c e ∙ ap form_of (sym is-form)) in
          rw (e, ← word_drop later bytes, ← drop_whole bytes later, ← is_record)
          (x G (plays_here file a E found p fits is-target is-sets is_record) c p.state code_below asked_fetchable is-game)

-- a refusal is no length
refused_counted : (n : ℕ) → ¬ (n ≡ 0) → (r : LosingAnswer) → RefusedBy n r → ReplyCounted r
refused_counted n z (Ok x) e = absurd (z e)
refused_counted n z (Err x) e = tt

-- a length that is answered is the reply's
answer_counted : (n : ℕ) (a : FetchOutcome) (r : LosingAnswer) → (n ≡ 0 → tags_of a ≤ most_counted) → losing_answer n a r → ReplyCounted r
answer_counted zero keeps_won r h e = subst ReplyCounted (sym e) tt
answer_counted zero (lost_by u) r h e = subst ReplyCounted (sym e) (h refl)
answer_counted (suc n) a r h e = refused_counted (suc n) (λ z. omega arith) r e

answer_within : (n m room : ℕ) (a : FetchOutcome) → (n ≡ 0 → tags_of a ≤ room) → losing_answer n a (Ok (Some m)) → m ≤ room
answer_within zero m room keeps_won h e = let z : ◌≡◌ {A = ℕ} 0 1 = cc in absurd (omega arith)
answer_within zero m room (lost_by u) h e = let l = h refl in let k : m ≡ length u = cc in omega arith
answer_within (suc n) m room a h e = absurd (omega arith)

-- where neither 25 nor 26 is given, the reply is counted, and there is room for it
pub reply_kept : (a : FetchOutcome) (room : ℕ) → reply_refusal a room ≡ 0 → (tags_of a ≤ most_counted) × (tags_of a ≤ room)
reply_kept a room z =
    let kept = first_passed (reply_rules a room) (positive 25 (lit< tt), (positive 26 (lit< tt), tt)) z in
    let long = kept.0 in
    let short = kept.1.0 in
    (omega arith, omega arith)

module _ (file : List ℕ) (p : Play) (buffer : List ℕ) where
  abbrev room : ℕ
  room = length buffer

  -- a refusal where no fetch is allowed
  pub losing_refused : (e : Refusal) → first_of (fetch_asked_rules file p) ≡ refusal_number e →
      LosingReplyOf file p buffer (Err e) buffer
  losing_refused e k = record { refused = λ _. (k, refl); given = λ x. absurd (number_positive e (sym k ∙ x)) }

  module _ (asked : FetchAsked file p) where
    -- the answer by the refusals of the reply
    answered : (a : FetchOutcome) (n : ℕ) (r : LosingAnswer) (left : List ℕ) → OutcomeAt file p a → reply_refusal a room ≡ n →
        losing_answer n a r → left ≡ losing_buffer n a buffer → LosingReplyOf file p buffer r left
    answered a n r left x e y b = record { refused = λ k. absurd (k asked); given = λ _. (a, x, rw e y, rw e b) }

    by_found : (r : Shortest) (left : List ℕ) →
        FoundAt file p buffer r left →
        LosingReplyOf file p buffer (answer_of r room) left
    unfolding OutcomeFound
    by_found Unreached left (won, same) =
        answered keeps_won 0 _ left won (passed_first (reply_rules keeps_won room) (λ l. omega arith, (λ l. omega arith, tt))) refl same
    by_found (Tags n) left (u, loses, long, few, same) =
        let fills = paste buffer 0 (map byte_of u) (length u) in
        elim (dec_lt room n) [
          | yes h ↦
              answered (lost_by u) 26 _ left loses
              (first_kept (rule25 (lost_by u)) _ (λ l. omega arith) ∙ first_broken (rule26 (lost_by u) room) [] (omega arith))
              (rw (lt-ltb room n h) refl)
              (same ∙ if_neg (dec_le (length u) room) (λ l. omega arith) fills buffer)
          | no k ↦
              answered (lost_by u) 0 _ left loses (passed_first (reply_rules (lost_by u) room) (λ l. omega arith, (λ l. omega arith, tt)))
              (rw (le-ltb room n (omega arith)) (ap (λ k. Ok (Some k)) (sym long)))
              (same ∙ if_pos (dec_le (length u) room) (omega arith) fills buffer)
        ]
    by_found Longer left (u, loses, long, same) =
        answered (lost_by u) 25 _ left loses (first_broken (rule25 (lost_by u)) _ long) refl same

    -- with the length of a buffer that was written to, which is as long
    pub outcome_answered : (r : Shortest) (left : List ℕ) →
        FoundAt file p buffer r left →
        {n : ℕ} → n ≡ room → {a : LosingAnswer} → a ≡ answer_of r n → LosingReplyOf file p buffer a left
    outcome_answered r left x l e = rw (e ∙ ap (λ n. answer_of r n) l) (by_found r left x)

-- a length that is answered is one that is counted, and the buffer has so many bytes
abbrev asked? : (file : List ℕ) (p : Play) → Dec (FetchAsked file p)
asked? file p = ℕ_discrete (first_of (fetch_asked_rules file p)) 0

module _ {file : List ℕ} {p : Play} {buffer left : List ℕ} where
  pub losing_counted : {r : LosingAnswer} → LosingReplyOf file p buffer r left → ReplyCounted r
  losing_counted s =
      elim (asked? file p) [
        | no n ↦ refused_counted _ n _ (s.refused n).0
        | yes z ↦ let (a, _, e, _) = s.given z in answer_counted _ a _ (λ k. (reply_kept a (length buffer) k).0) e
      ]

  pub losing_within : {n : ℕ} → LosingReplyOf file p buffer (Ok (Some n)) left → n ≤ length buffer
  losing_within s =
      elim (asked? file p) [
        | no n ↦ absurd (n (s.refused n).0)
        | yes z ↦ let (a, _, e, _) = s.given z in answer_within _ _ _ a (λ k. (reply_kept a (length buffer) k).1) e
      ]
