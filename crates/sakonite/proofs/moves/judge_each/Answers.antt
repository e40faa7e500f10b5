-- `moves::judge_each` meets its contract.
use mathlib.Core.Path.{sym, ◌∙◌, ap₂, subst, subst₂}
use borrow.Author.Rules.{rules}
use Rattle.std.proofs.lemmas.Result.{err_from_is_err_and}
use Rattle.automata.specs.TargetBody.{target_of}
use Rattle.job.proofs.Accepted.{is_accepted}
use Rattle.play.specs.Moves.{moved}
use Rattle.play.specs.Inner.MoveParts.{Movable, call_of}
use Rattle.play.proofs.MoveLaws.{forms_for, call_accepted, movable}
use Rattle.play_advice.proofs.StartLaws.{begun_on}
use Rattle.sakonite.proofs.PlayedLaws.{SameFrom, judged_start, judged_step, judged_refused, judged_end}
use Rattle.sakonite.proofs.RoomLaws.{modest_start, modest_judged}
use Rattle.sakonite.proofs.moves.judge_each.Goals as goal

pub loop-call-init : goal.loop-call-init
loop-call-init c =
    let file = c.args.file.file.now in
    let history = c.args.calls.rest.now in
    let ok = c.args.file.found.accepted in
    let begun = c.begun-play.ensures ∙ begun_on file _ ok c.target-target.ensures in
    rw (c.into_iter-call-iterator.ensures.into_iter_gives, begun)
    (judged_start file history c.args.room, modest_start file ok)

pub refusal-requires : goal.refusal-requires
refusal-requires c =
    (c.loop-call.invariant.1.sound.fits, forms_for c.args.file.file.now (call_of c.in-Some.call) c.requires)

pub after_move-play-requires : goal.after_move-play-requires
after_move-play-requires c =
    let m = call_of c.in-Some.call in
    let p = c.loop-call.play in
    let a = is_accepted _ c.args.file.found.accepted in
    subst₂ (λ t b. Movable t b p m) (sym c.target-target.ensures) (sym c.record-record.ensures)
    (movable c.args.file.file.now a p m c.args.room c.in_ok-refusal.ensures (search rules))

pub returns-in_err-refusal : goal.returns-in_err-refusal
returns-in_err-refusal c =
    let v = c.loop-call in
    let file = c.args.file.file.now in
    let history = c.args.calls.rest.now in
    let p = err_from_is_err_and c.from_residual.result c.from_residual.ensures.1 in
    rw (p.1, p.2)
    (judged_refused file history c.args.room v.play (call_of c.in-Some.call) _
    (subst (SameFrom file history c.args.room v.play) c.in-Some.ensures.steps v.invariant.0) _ c.in_err-refusal.ensures)

pub loop-call-preserved : goal.loop-call-preserved
loop-call-preserved c =
    let v = c.loop-call in
    let file = c.args.file.file.now in
    let room = c.args.room in
    let m = call_of c.in-Some.call in
    let judged = call_accepted file v.play m room c.in_ok-refusal.ensures _
    (c.after_move-play.ensures ∙ ap₂ (λ t b. moved (target_of t) b v.play m) c.target-target.ensures c.record-record.ensures) in (
      judged_step file c.args.calls.rest.now room v.play m _
          (subst (SameFrom file c.args.calls.rest.now room v.play) c.in-Some.ensures.steps v.invariant.0) _ judged,
      modest_judged file c.args.file.found.accepted v.play v.invariant.1 m room _ judged,
    )

pub returns : goal.returns
returns c =
    let v = c.loop-call in
    let file = c.args.file.file.now in
    judged_end file c.args.calls.rest.now c.args.room v.play
    (subst (SameFrom file c.args.calls.rest.now c.args.room v.play) c.in-None.ensures.steps.0 v.invariant.0)
