-- `advice_on` meets its contract: what is left of the record is judged, by the file's own bodies.
use mathlib.Core.Path.{◌∙◌, ap, subst}
use lib.ListN.{drop}
use Rattle.words.specs.Tag.{word_of}
use Rattle.words.proofs.Bytes.{word_drop}
use Rattle.job.proofs.Accepted.{is_accepted}
use Rattle.game.specs.Job.{game_of}
use Rattle.game.specs.Advice.{AdviceIs}
use Rattle.advice.specs.AdviceNumber.{advice_number}
use Rattle.advice.proofs.LeftLaws.{drop_whole}
use Rattle.play.specs.Play.{held_of}
use Rattle.play_advice.proofs.PlayLeft.{left_here, state_here, plays_here}
use Rattle.play_advice.proofs.advice_on.Goals as goal

pub advice_from-requires : goal.advice_from-requires
advice_from-requires c =
    let f = c.args.fitted in
    let file = f.file.file.now in
    let a = is_accepted file f.file.found.accepted in
    let target = c.target.ensures in
    let sets = c.table-sets.ensures in
    let bytes = c.record-record.ensures in
    rw (c.kept_states.ensures.0, c.kept_states.ensures.1) (
      left_here file a f.effects f.found f.play f.fits target sets bytes,
      state_here file a f.effects f.found f.play f.fits target sets bytes,
    )

pub returns : goal.returns
unfolding held_of
returns c =
    let f = c.args.fitted in
    let file = f.file.file.now in
    let p = f.play in
    let i = p.position in
    let bytes = c.record-record.ensures in
    let left = ap word_of (drop_whole c.record-record.result.now i) ∙ word_drop i _ ∙ ap (λ l. drop i (word_of l)) bytes in
    let a = is_accepted file f.file.found.accepted in
    let plays = plays_here file a f.effects f.found p f.fits c.target.ensures c.table-sets.ensures bytes in
    let advised = rw (c.kept_states.ensures.0, c.kept_states.ensures.1) at (c.advice_from.ensures _ plays) in
    subst (λ w. AdviceIs (game_of file) w (held_of p) (advice_number c.advice_from.result)) left advised
