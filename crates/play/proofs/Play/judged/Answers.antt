-- `Play::judged` meets its contract.
use mathlib.Core.Path.{sym, ◌∙◌, ap₂, subst₂}
use Rattle.automata.specs.TargetBody.{target_of}
use Rattle.job.proofs.Accepted.{is_accepted}
use Rattle.play.specs.Moves.{moved}
use Rattle.play.specs.Inner.MoveParts.{Movable, call_of}
use Rattle.play.proofs.MoveLaws.{call_accepted, movable}
use borrow.Author.Rules.{rules}
use Rattle.play.proofs.Play.judged.Goals as goal

pub after_move-requires : goal.after_move-requires
after_move-requires c =
    let m = call_of c.args.call in
    let a = is_accepted _ c.args.file.found.accepted in
    subst₂ (λ t b. Movable t b c.args.self m) (sym c.target.ensures) (sym c.record.ensures)
    (movable c.args.file.file.now a c.args.self m c.args.room c.in_ok-refusal.ensures (search rules))

pub returns : goal.returns
returns c =
    let m = call_of c.args.call in
    call_accepted c.args.file.file.now c.args.self m c.args.room c.in_ok-refusal.ensures _
    (c.after_move.ensures ∙ ap₂ (λ t b. moved (target_of t) b c.args.self m) c.target.ensures c.record.ensures)
