-- The reply that the entry gives loses the play: with it fetched at the history's end, what is advised is that the play is lost, or, where
-- no tag is left then, that it is finished outside the form (SPEC 13.9).
use mathlib.Core.Path.{◌≡◌, refl, sym, ◌∙◌, ap, subst}
use mathlib.Core.Bool.{false, cond}
use mathlib.Core.Logic.{◌⊎◌, inl, inr, ⊎_elim}
use mathlib.Core.List.{List, [], ◌∷◌, ◌++◌, map, map-append}
use Prim.Native.Nat.{ℕ, zero, suc, ◌+◌, ◌<◌}
use native.Mathlib.Omega.{arith}
use native.Mathlib.Nat.{zero-add}
use native.Mathlib.Decide.{ℕ_discrete}
use lib.ListN.{length, take, drop, length-map, length-drop}
use lib.Seq.{paste, take-paste, take_all}
use Rattle.words.specs.Tag.{closing, code_of, byte_of, tag_of, codes, Word, word_of}
use Rattle.words.specs.Forest.{Forest, none, elem, tags, Coded, WellNested}
use Rattle.words.proofs.Bytes.{tag_of_opening, tag_of_closing}
use Rattle.automata.specs.Target.{Held}
use Rattle.automata.specs.Reply.{Lawful}
use Rattle.automata.specs.Small.{Small}
use Rattle.contents.specs.Contents.{record_bytes}
use Rattle.job.specs.Refusal.{first_of}
use Rattle.job.specs.File.{file_refusal}
use Rattle.game.specs.Arena.{fetch, Lost}
use Rattle.game.specs.Game.{Game}
use Rattle.game.specs.Rule.{Rule, arena}
use Rattle.game.specs.Held.{replacing, held}
use Rattle.game.specs.Job.{game_of, record_of}
use Rattle.game.specs.Advice.{AdviceBy, AdviceIs}
use Rattle.losing.specs.LosingReply.{FetchOutcome, keeps_won, lost_by}
use Rattle.play.specs.Play.{held_of, tags_left}
use Rattle.play.specs.Moves.{MoveCall, to_fetch, tag_at}
use Rattle.fetching.specs.FetchRules.{FetchAllowed}
use Rattle.play_advice.specs.Start.{file_start}
use Rattle.play_losing.specs.LosingAnswer.{reply_refusal, fetch_asked_rules, FetchAsked, OutcomeAt, LosingReplyOf}
use Rattle.play_losing.specs.LosingAnswer.{LosingAnswer, losing_answer, losing_buffer, losing_number, length_base}
use Rattle.play.specs.declared.Play.{Play}
use Rattle.play.proofs.EntryLaws.{file_playable}
use Rattle.play_losing.proofs.LosingAnswerLaws.{asked_parts}
use Rattle.play.proofs.MoveRefusals.{FetchPasses}
use Rattle.demand.proofs.MovedPlay.{moved_position, moved_held}
use Rattle.sakonite.specs.History.{written}
use Rattle.sakonite.specs.Played.{moved_by, play_after, ample}
use Rattle.sakonite.specs.Entries.{calls_of, history_refusal, play_at, AdviceAfter}
use Rattle.sakonite.specs.HostDemand.{AllAccepted}
use Rattle.sakonite.specs.LosingAfter.{LosingReplyAfter}
use Rattle.sakonite.proofs.HistoryLaws.{written_append, calls_written, calls_are}
use Rattle.sakonite.proofs.PlayedLaws.{after_more}
use Rattle.sakonite.proofs.RoomLaws.{Modest}
use Rattle.sakonite.proofs.AnswerLaws.{none_refused, play_reached}
use Rattle.sakonite.proofs.HostDemand.{passing_more}
use Rattle.sakonite.proofs.HostLosingReply.{refused_number}
use Rattle.sakonite.proofs.NumberLaws.{history_below, asked_below, reply_below}

-- the bytes of a well-nested word hold it
closing_back : (c : ℕ) → tag_of (codes + c) ≡ closing c
closing_back c = tag_of_closing (codes + c) (omega arith) ∙ ap closing (omega arith)

forest_back : (f : Forest) → Coded f → word_of (map byte_of (tags f)) ≡ tags f
forest_back none k = refl
forest_back (elem c f g) (h, kf, kg) =
    ap (λ l. tag_of c ∷ word_of l) (map-append byte_of (tags f) (closing c ∷ tags g)) ∙
    ap (λ l. tag_of c ∷ l) (map-append tag_of (map byte_of (tags f)) ((codes + c) ∷ map byte_of (tags g))) ∙
    (λ i. tag_of_opening c h i ∷ (forest_back f kf i ++ closing_back c i ∷ forest_back g kg i))

word_back : (u : Word) → WellNested u → word_of (map byte_of u) ≡ u
word_back u x = subst (λ w. word_of (map byte_of w) ≡ w) x.spells (forest_back x.forest x.coded)

-- a number from the base on is a reply's length
of_length : (n k : ℕ) → k < length_base → (x : FetchOutcome) (s : LosingAnswer) → losing_answer k x s → length_base + n ≡ losing_number s →
    (u : Word) × (x ≡ lost_by u) × (k ≡ 0) × (length u ≡ n)
of_length n zero h keeps_won s r e = let z = e ∙ ap losing_number r in absurd (omega arith)
of_length n zero h (lost_by u) s r e = let z = e ∙ ap losing_number r in (u, refl, refl, omega arith)
of_length n (suc k) h x s r e = let z = e ∙ refused_number (suc k) (λ z. omega arith) s r in absurd (omega arith)

-- a reply of n tags is given, and stands in the buffer
record Replied (file : List ℕ) (p : Play) (n : ℕ) (left : List ℕ) : Type 0 where
  reply : Word
  losing : OutcomeAt file p (lost_by reply)
  more : p.position < length (record_bytes file)
  may : FetchAllowed (game_of file) (tag_at (record_bytes file) p)
  stands : take n left ≡ map byte_of reply

pasted : (buffer : List ℕ) (u : Word) → take (length u) (paste buffer 0 (map byte_of u) (length u)) ≡ map byte_of u
pasted buffer u =
    let l = length-map u byte_of in
    ap (λ i. take i (paste buffer 0 (map byte_of u) (length u))) (sym (zero-add (length u))) ∙
    take-paste buffer 0 (map byte_of u) (length u) (omega arith) (omega arith) ∙ take_all (length u) (map byte_of u) (omega arith)

replied : (file : List ℕ) (p : Play) (buffer : List ℕ) (s : LosingAnswer) (left : List ℕ) (n : ℕ) → LosingReplyOf file p buffer s left →
    length_base + n ≡ losing_number s → Replied file p n left
replied file p buffer s left n o e =
    let below = asked_below file p in
    let asked : FetchAsked file p =
    elim (ℕ_discrete (first_of (fetch_asked_rules file p)) 0) [
      | yes z ↦ z
      | no k ↦ let x = e ∙ refused_number _ k s (o.refused k).0 in absurd (omega arith)
    ] in
    let (a, is-so, answer, bytes) = o.given asked in
    let (u, found, z, l) = of_length n (reply_refusal a (length buffer)) (reply_below a (length buffer)) a s answer e in
    let (_, _, more, may) = asked_parts file p asked in
    let there : left ≡ paste buffer 0 (map byte_of u) (length u) = bytes ∙ (λ i. losing_buffer (z i) (found i) buffer) in
    record {
      reply = u;
      losing = subst (λ x. OutcomeAt file p x) found is-so;
      more = more;
      may = may;
      stands = (λ i. take (sym l i) (there i)) ∙ pasted buffer u;
    }

-- the advice to a play that is lost: with tags left 0, with none 4
lost_advice : (R : Rule) (w : Word) (k : Held R.Val) → Lost (arena R) w k → (a : ℕ) → AdviceBy (arena R) w k a →
    ((0 < length w) × (a ≡ 0)) ⊎ ((length w ≡ 0) × (a ≡ 4))
unfolding Lost
lost_advice R [] k lost a v =
    let (y, e, outside) = lost (λ h. false) in
    inr (refl, v ∙ ap (λ b. cond b 3 4) (ap (arena R).met e ∙ outside))
lost_advice R (t ∷ w) k lost a v = inl (omega arith, v.lost.1 lost)

-- a fetch of that reply, small enough to arrive, after the calls of the history
module _ (file h : List ℕ) (acc : history_refusal file h ample ≡ 0) (n : ℕ) (left : List ℕ) (r : Replied file (play_at file h) n left)
    (small : Small (take n left)) where
  abbrev G : Game
  G = game_of file

  abbrev bytes : List ℕ
  bytes = record_bytes file

  abbrev p : Play
  p = play_at file h

  abbrev m : MoveCall
  m = to_fetch (take n left)

  ok : file_refusal file ≡ 0
  ok = (none_refused file h ample acc).0

  reached : Modest file p
  reached = play_reached file h ample acc

  tag_left : p.position < length (record_of file)
  tag_left =
      let k = r.more in
      let l = length-map bytes tag_of in
      omega arith

  lawful : Lawful (G.forms (code_of (tag_at bytes p))) r.reply
  lawful = r.losing.loses.1

  word_is : word_of (take n left) ≡ r.reply
  word_is = ap word_of r.stands ∙ word_back r.reply lawful.nested

  fetched : FetchPasses G bytes p m
  fetched = (r.may, small, subst (λ u. Lawful (G.forms (code_of (tag_at bytes p))) u) (sym word_is) lawful)

  -- the calls of the longer history, which are all accepted
  abbrev calls : List MoveCall
  calls = calls_of h ++ (m ∷ [])

  written_is : written (calls_of h) ≡ h
  written_is = calls_written h (none_refused file h ample acc).1

  longer : h ++ written (m ∷ []) ≡ written calls
  longer = ap (λ l. l ++ written (m ∷ [])) (sym written_is) ∙ sym (written_append (calls_of h) (m ∷ []))

  accepted : AllAccepted file calls
  accepted =
      passing_more file ok (calls_of h) (rw written_is acc) m
      (record { fits = reached.sound.fits; lent = omega arith; left = tag_left; fetched = fetched; roomy = omega arith })

  play_is : play_at file (written calls) ≡ moved_by file p m
  play_is = ap (λ ds. play_after file (file_start file) ds) (calls_are calls) ∙ after_more file (file_start file) (calls_of h) m

  -- there the play is lost
  abbrev rest : Word
  rest = drop (p.position + 1) (record_of file)

  held_is : held_of (moved_by file p m) ≡ (held G).step (fetch r.reply) (tag_at bytes p) (held_of p)
  held_is =
      moved_held G bytes (file_playable file ok) p reached.sound tag_left m fetched ∙
      ap (λ u. (held G).step (fetch u) (tag_at bytes p) (held_of p)) word_is

  lost_there : Lost (held G) rest (held_of (moved_by file p m))
  lost_there = rw held_is r.losing.loses.2

  advised : (a : ℕ) → AdviceAfter file (h ++ written (m ∷ [])) a → AdviceIs G rest (held_of (moved_by file p m)) a
  advised a v =
      let there = (subst (λ l. AdviceAfter file l a) longer v).given accepted in
      let q = subst (λ x. AdviceIs G (tags_left (record_of file) x) (held_of x) a) play_is there in
      subst (λ i. AdviceIs G (drop i (record_of file)) (held_of (moved_by file p m)) a) (moved_position G.target bytes p m) q

  fetch_loses : (a : ℕ) → AdviceAfter file (h ++ written (m ∷ [])) a →
      ((suc p.position < length bytes) × (a ≡ 0)) ⊎ ((suc p.position ≡ length bytes) × (a ≡ 4))
  fetch_loses a v =
      let d = length-drop (p.position + 1) (record_of file) in
      let l = length-map bytes tag_of in
      let t = tag_left in
      ⊎_elim (λ x. let some = x.0 in inl (omega arith, x.1)) (λ x. let none = x.0 in inr (omega arith, x.1))
      (lost_advice (replacing G) rest (held_of (moved_by file p m)) lost_there a (advised a v))

-- The reply that the entry gives, fetched after the same history, makes the advice "lost" where tags are left then, and "finished outside"
-- where none is.
pub losing_reply_loses : (file h buffer left : List ℕ) (n : ℕ) →
    LosingReplyAfter file h buffer (length_base + n) left → Small (take n left) →
    (a : ℕ) → AdviceAfter file (h ++ written (to_fetch (take n left) ∷ [])) a →
    ((suc (play_at file h).position < length (record_bytes file)) × (a ≡ 0)) ⊎
    ((suc (play_at file h).position ≡ length (record_bytes file)) × (a ≡ 4))
losing_reply_loses file h buffer left n v small =
    let below = history_below file h ample in
    let acc : history_refusal file h ample ≡ 0 =
    elim (ℕ_discrete (history_refusal file h ample) 0) [ yes z ↦ z | no k ↦ let e = (v.refused k).0 in absurd (omega arith) ] in
    let (s, o, e) = v.given acc in
    fetch_loses file h acc n left (replied file (play_at file h) buffer s left n o e) small
