-- `Play::refusal` meets its contract: the lists of refusals, one after the other.
use mathlib.Core.Path.{◌≡◌, sym, ◌∙◌, ap, subst}
use mathlib.Core.List.{List}
use Prim.Native.Nat.{ℕ, ◌+◌, ◌<◌, ◌≤◌}
use native.Mathlib.Omega.{arith}
use lib.ListN.{length, get_or, length-map}
use Rattle.std.proofs.lemmas.Result.{err_from_is_err_and}
use Rattle.words.specs.Tag.{tag_bytes, tag_of}
use Rattle.words.proofs.Bytes.{tag_at_lem}
use Rattle.contents.specs.Contents.{record_bytes}
use Rattle.job.specs.Refusal.{first_of}
use Rattle.job.specs.Accepted.{Accepted}
use Rattle.job.proofs.Accepted.{is_accepted}
use Rattle.job.proofs.RefusalNumbers.{number_positive}
use Rattle.game.specs.Job.{game_of, record_of}
use Rattle.play.specs.Play.{PlayFits}
use Rattle.play.specs.Moves.{MoveCall, tag_at, piece_offset, piece_of, count_after}
use Rattle.play.specs.MoveRules.{tag_rules}
use Rattle.play.specs.Inner.MoveParts.{Replied, call_of}
use Rattle.play.specs.declared.Play.{Play}
use Rattle.play.proofs.MoveLaws.{reply_accepted, open_at_fetch, place_within, count_piece}
use Rattle.play.proofs.MoveRefusals.{FetchPasses, tag_passed, refused_21, refused_22, reply_refused, refused_24, not_refused}
use Rattle.play.proofs.Play.refusal.Goals as goal

-- a play that fits an accepted file, and the file's record as it was read
module _
    {file : List ℕ}
    (accepted : Accepted file)
    {p : Play}
    (fits : PlayFits (game_of file).target (record_of file) p)
    {bytes : List ℕ}
    (read : bytes ≡ record_bytes file)
    (more : ¬ (p.position ≡ length bytes)) where
  left : p.position < length (record_bytes file)
  left = omega (arith, fits.within, length-map (record_bytes file) tag_of, ap length read)

  tag_byte : get_or bytes p.position 0 < tag_bytes
  tag_byte =
      subst (λ b. get_or b p.position 0 < tag_bytes) (sym read) (accepted.bodies.is_record.word.bytes p.position left)

  -- the refusal of the reply, by the record's tag at the play's place
  module _ (m : MoveCall) {n : ℕ} (e : first_of (tag_rules (game_of file) (tag_of (get_or bytes p.position 0)) m) ≡ n) where
    reply_number : first_of (tag_rules (game_of file) (tag_at (record_bytes file) p) m) ≡ n
    reply_number =
        let tag = ap (λ b. tag_of (get_or b p.position 0)) read ∙ sym (tag_at_lem (record_bytes file) p.position) in
        ap (λ t. first_of (tag_rules (game_of file) t m)) (sym tag) ∙ e

  -- where it is none
  module _ (m : MoveCall) (e : first_of (tag_rules (game_of file) (tag_of (get_or bytes p.position 0)) m) ≡ 0) where
    passed : FetchPasses (game_of file) (record_bytes file) p m
    passed = tag_passed (game_of file) (record_bytes file) p m (reply_number m e)

    replied : Replied p m
    replied = reply_accepted file accepted p fits left m passed

    within : piece_offset p m ≤ p.count
    within = place_within file accepted p fits left m replied

-- what is finished after the call
added : (bytes : List ℕ) {piece : List ℕ} (p : Play) (m : MoveCall) → piece ≡ piece_of bytes p.position m →
    count_after p m ≡ piece_offset p m + length piece
added bytes p m e = rw e (count_piece bytes p m)

pub returns-then-room-self : goal.returns-then-room-self
returns-then-room-self c =
    refused_21 _ _ _ _ _ (λ f. let h = f.1 in omega (arith, c.if-room-self.true))

pub returns-then-position-record : goal.returns-then-position-record
returns-then-position-record c =
    let end = c.if-position-record.true ∙ ap length c.record-record.ensures in
    refused_22 _ _ _ _ _ (c.requires.0, c.if-room-self.false) end

pub reply_refusal-requires : goal.reply_refusal-requires
reply_refusal-requires c =
    let a = is_accepted _ c.args.file.found.accepted in
    (c.requires.1, tag_byte a c.requires.0 c.record-record.ensures c.if-position-record.false)

pub returns-in_err-reply_refusal : goal.returns-in_err-reply_refusal
returns-in_err-reply_refusal c =
    let a = is_accepted _ c.args.file.found.accepted in
    let read = c.record-record.ensures in
    let more = c.if-position-record.false in
    let m = call_of c.args.call in
    let p = err_from_is_err_and c.from_residual.result c.from_residual.ensures.1 in
    let r = reply_number a c.requires.0 read more m c.in_err-reply_refusal.ensures in
    let here = left a c.requires.0 read more in
    rw (p.1, p.2)
    (reply_refused _ _ _ _ _ (c.requires.0, c.if-room-self.false) here (λ z. number_positive _ (sym r ∙ z)) ∙ r)

pub piece_offset-requires : goal.piece_offset-requires
piece_offset-requires c =
    let a = is_accepted _ c.args.file.found.accepted in
    let read = c.record-record.ensures in
    let more = c.if-position-record.false in
    let m = call_of c.args.call in
    open_at_fetch _ a _ c.requires.0 (left a c.requires.0 read more) m (replied a c.requires.0 read more m c.in_ok-reply_refusal.ensures)

pub returns-then-room-piece_offset : goal.returns-then-room-piece_offset
returns-then-room-piece_offset c =
    let a = is_accepted _ c.args.file.found.accepted in
    let read = c.record-record.ensures in
    let more = c.if-position-record.false in
    let m = call_of c.args.call in
    let pass = passed a c.requires.0 read more m c.in_ok-reply_refusal.ensures in
    let h = within a c.requires.0 read more m c.in_ok-reply_refusal.ensures in
    refused_24 _ _ _ _ _ (c.requires.0, c.if-room-self.false) (left a c.requires.0 read more) pass
    (omega (arith, added _ c.args.self m c.piece_of-added.ensures, c.piece_offset.ensures, h))

pub returns : goal.returns
returns c =
    let a = is_accepted _ c.args.file.found.accepted in
    let read = c.record-record.ensures in
    let more = c.if-position-record.false in
    let m = call_of c.args.call in
    let pass = passed a c.requires.0 read more m c.in_ok-reply_refusal.ensures in
    let h = within a c.requires.0 read more m c.in_ok-reply_refusal.ensures in
    not_refused _ _ _ _ _ (c.requires.0, c.if-room-self.false) (left a c.requires.0 read more) pass
    (omega (arith, added _ c.args.self m c.piece_of-added.ensures, c.piece_offset.ensures, h))
