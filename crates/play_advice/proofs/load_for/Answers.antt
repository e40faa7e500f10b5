-- `load_for` meets its contract: the file's refusal, then 21, of the file's own target and record.
use mathlib.Core.Path.{ap}
use Rattle.std.proofs.lemmas.Result.{err_from_is_err_and}
use Rattle.job.proofs.Accepted.{is_accepted}
use Rattle.play.proofs.FitLaws.{own_fits, own_unfit}
use Rattle.play_advice.proofs.AdviceRefusals.{advice_passes, advice_by_file, advice_by_21}
use Rattle.play_advice.proofs.load_for.Goals as goal
use Rattle.play_advice.proofs.load_for.Goals.{then-play_fits, else-play_fits}

pub returns-in_err-job : goal.returns-in_err-job
returns-in_err-job c =
    let p = err_from_is_err_and c.from_residual.result c.from_residual.ensures.1 in
    rw (p.1, p.2) (advice_by_file c.args.file.now c.args.p _ c.in_err-job.ensures, c.in_err-job.ensures)

pub play_fits-requires : goal.play_fits-requires
play_fits-requires c =
    rw (c.record.ensures, c.accepted-accepted.ensures) (is_accepted _ c.in_ok-job.ensures.offsets_are_of.accepted).bodies.is_record

pub returns : goal.returns
returns c =
    let file = c.args.file.now in
    let target = rw c.accepted-accepted.ensures at c.target.ensures in
    let bytes = rw c.accepted-accepted.ensures at c.record.ensures in
    let accepted = c.in_ok-job.ensures.offsets_are_of.accepted in
    let same = ap (λ f. f.now) c.accepted-accepted.ensures in (
      elim c.if-play_fits.branch [
        | then-play_fits w ↦ rw w.answer-is
            (advice_passes file accepted c.args.p (own_fits file target bytes c.args.p c.play_fits.ensures w.if-play_fits.true))
        | else-play_fits w ↦ rw w.answer-is
            (advice_by_21 file c.args.p accepted (own_unfit file target bytes c.args.p c.play_fits.ensures w.if-play_fits.false))
      ],
      same,
      c.in_ok-job.ensures.effects,
    )
