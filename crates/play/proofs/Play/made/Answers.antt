-- `Play::made` meets its contract: the file's refusal comes first, then 21, then the call's, and then its piece is written.
use mathlib.Core.Path.{refl, ◌∙◌, ap}
use native.Mathlib.Omega.{arith}
use lib.ListN.{length}
use Rattle.std.proofs.lemmas.Result.{err_from_is_err_and}
use Rattle.contents.specs.Contents.{record_bytes}
use Rattle.job.proofs.Accepted.{is_accepted}
use Rattle.game.specs.Job.{game_of}
use Rattle.play.specs.Moves.{with_piece}
use Rattle.play.specs.Inner.MoveParts.{call_of}
use Rattle.play.proofs.MoveRefusals.{refused_21}
use Rattle.play.proofs.MoveLaws.{movable, has_room, open_at_fetch, count_piece}
use Rattle.play.proofs.EntryLaws.{refused_file, own_number}
use Rattle.play.proofs.FitLaws.{own_fits, own_unfit}
use borrow.Author.Rules.{rules}
use Rattle.play.proofs.Play.made.Goals as goal

pub returns-in_err-job : goal.returns-in_err-job
returns-in_err-job c =
    let p = err_from_is_err_and c.from_residual.result c.from_residual.ensures.1 in
    rw (p.1, p.2) (refused_file c.args.file.now c.args.self (call_of c.args.call) _ _ c.in_err-job.ensures, refl)

pub play_fits-requires : goal.play_fits-requires
play_fits-requires c =
    rw (c.record-record.ensures, c.accepted-accepted.ensures) (is_accepted _ c.in_ok-job.ensures.offsets_are_of.accepted).bodies.is_record

pub returns-then-not-play_fits : goal.returns-then-not-play_fits
returns-then-not-play_fits c =
    let file = c.args.file.now in
    let p = c.args.self in
    let m = call_of c.args.call in
    let room = length c.args.buffer.now in
    let ok = c.in_ok-job.ensures.offsets_are_of.accepted in
    let target = rw c.accepted-accepted.ensures at c.target.ensures in
    let bytes = rw c.accepted-accepted.ensures at c.record-record.ensures in
    let unfit = own_unfit file target bytes p c.play_fits.ensures c.if-not-play_fits.true in
    (own_number file p m ok room ∙ refused_21 (game_of file) (record_bytes file) p m room (λ f. unfit f.0), refl)

pub judged-requires : goal.judged-requires
judged-requires c = (
  own_fits _ c.target.ensures c.record-record.ensures c.args.self c.play_fits.ensures c.if-not-play_fits.false,
  c.compile_for.ensures,
)

pub returns-in_err-play : goal.returns-in_err-play
returns-in_err-play c =
    let ok = c.in_ok-job.ensures.offsets_are_of.accepted in
    let p = err_from_is_err_and c.from_residual-in_err-play.result c.from_residual-in_err-play.ensures.1 in
    let refused = rw c.accepted-accepted.ensures at c.in_err-play.ensures in
    rw (p.1, p.2) (own_number c.args.file.now c.args.self (call_of c.args.call) ok _ ∙ refused, refl)

pub write-requires-clause-fact : goal.write-requires-clause-fact
write-requires-clause-fact c =
    let file = c.args.file.now in
    let p = c.args.self in
    let m = call_of c.args.call in
    let a = is_accepted file c.in_ok-job.ensures.offsets_are_of.accepted in
    let bytes = rw c.accepted-accepted.ensures at c.record-record.ensures in
    let target = rw c.accepted-accepted.ensures at c.target.ensures in
    let fits = own_fits file target bytes p c.play_fits.ensures c.if-not-play_fits.false in
    let played = rw c.accepted-accepted.ensures at c.in_ok-play.ensures in
    let can = movable file a p m _ played.0 (search rules) in
    (open_at_fetch file a p fits can.stands.left m can.replied, rw bytes can.stands.left)

pub write-requires-clause-reply_in_bounds : goal.write-requires-clause-reply_in_bounds
write-requires-clause-reply_in_bounds c =
    let file = c.args.file.now in
    let p = c.args.self in
    let m = call_of c.args.call in
    let a = is_accepted file c.in_ok-job.ensures.offsets_are_of.accepted in
    let played = rw c.accepted-accepted.ensures at c.in_ok-play.ensures in
    rw (c.record-record.ensures, c.accepted-accepted.ensures)
    (omega (arith, count_piece (record_bytes file) p m, has_room file a p m _ played.0))

pub returns : goal.returns
returns c =
    let p = c.args.self in
    let m = call_of c.args.call in
    let b = c.args.buffer.now in
    let ok = c.in_ok-job.ensures.offsets_are_of.accepted in
    let played = rw c.accepted-accepted.ensures at c.in_ok-play.ensures in
    let bytes = c.write.ensures ∙ ap (λ r. with_piece r p m b) (rw c.accepted-accepted.ensures at c.record-record.ensures) in
    (own_number c.args.file.now p m ok (length b) ∙ played.0, played.1, bytes)
