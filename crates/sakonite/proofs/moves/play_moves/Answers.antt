-- `moves::play_moves` meets its contract.
use mathlib.Core.Path.{sym, ◌∙◌, ap, subst}
use lib.ListN.{length}
use Rattle.contents.specs.Contents.{target_body, record_bytes}
use Rattle.job.proofs.Accepted.{is_accepted}
use Rattle.game.specs.Job.{game_of}
use Rattle.play.specs.Moves.{moved, with_piece}
use Rattle.play.specs.Inner.MoveParts.{Writable, with_state, call_of}
use Rattle.play.proofs.MoveLaws.{movable, has_room}
use Rattle.play.proofs.StatelessLaws.{same_start, same_count, same_piece, same_moved}
use Rattle.play_advice.specs.Start.{file_start}
use Rattle.play_advice.proofs.StartLaws.{begins}
use Rattle.sakonite.specs.Played.{moved_by}
use borrow.Author.Rules.{rules}
use Rattle.sakonite.proofs.HistoryLaws.{calls_written}
use Rattle.sakonite.proofs.PlayedLaws.{PlayedFrom, played_start, next_accepted, played_step}
use Rattle.sakonite.proofs.AnswerLaws.{none_refused}
use Rattle.sakonite.proofs.moves.play_moves.Goals as goal

pub invariant_of-call-items : goal.invariant_of-call-items
invariant_of-call-items c =
    let none = none_refused c.args.file.file.now c.args.history.now (λ p m. length c.args.buffer.now) c.requires in
    record { are_written = calls_written c.args.history.now none.1 }

pub loop-call-init : goal.loop-call-init
loop-call-init c =
    let file = c.args.file.file.now in
    let history = c.args.history.now in
    let buffer = c.args.buffer.now in
    let none = none_refused file history (λ p m. length buffer) c.requires in
    rw c.into_iter-call-iterator.ensures.into_iter_gives
    (record {
      at = file_start file;
      same = rw (c.in_state-play.ensures, begins file none.0) (same_start (game_of file).target);
      played = played_start file history buffer none.2;
    })

pub made_stateless-play-requires : goal.made_stateless-play-requires
made_stateless-play-requires c =
    let file = c.args.file.file.now in
    let history = c.args.history.now in
    let buffer = c.args.buffer.now in
    let turn = c.loop-call in
    let reached = turn.invariant in
    let m = call_of c.in-Some.call in
    let a = is_accepted file c.args.file.found.accepted in
    let accepts = next_accepted file history buffer reached.at turn.buffer m _
    (subst (PlayedFrom file history buffer reached.at turn.buffer) c.in-Some.ensures.steps reached.played) in
    let can = movable file a reached.at m _ accepts (search rules) in (
      subst (λ b. Writable b turn.play m) (sym c.record-record.ensures)
          (record { target = target_body file; play = reached.at; same = reached.same; movable = can }),
      rw (turn.auto.buffer, same_count (record_bytes file) turn.play reached.same m) (has_room file a reached.at m _ accepts),
    )

pub loop-call-preserved : goal.loop-call-preserved
loop-call-preserved c =
    let file = c.args.file.file.now in
    let history = c.args.history.now in
    let buffer = c.args.buffer.now in
    let turn = c.loop-call in
    let reached = turn.invariant in
    let m = call_of c.in-Some.call in
    let made = c.made_stateless-play.ensures in
    let bytes = c.record-record.ensures in
    let left = made.1 ∙ ap (λ b. with_piece b turn.play m turn.buffer) bytes ∙
    same_piece (record_bytes file) turn.play reached.same m turn.buffer in
    let A = (game_of file).target in
    let next = made.0 A ∙ ap (λ b. with_state 0 (moved A b turn.play m)) bytes in
    record {
      at = moved_by file reached.at m;
      same = rw next (same_moved (record_bytes file) turn.play reached.same A A m);
      played = played_step file history buffer reached.at turn.buffer m _
          (subst (PlayedFrom file history buffer reached.at turn.buffer) c.in-Some.ensures.steps reached.played) _ left;
    }

pub returns : goal.returns
returns c =
    let reached = c.loop-call.invariant in
    sym (subst (PlayedFrom c.args.file.file.now c.args.history.now c.args.buffer.now reached.at c.loop-call.buffer)
    c.in-None.ensures.steps.0 reached.played).same
