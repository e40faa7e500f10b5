-- `job::loader::check_record` meets its contract: the judgement's reason, or its depth, decides.
use mathlib.Core.Path.{sym}
use Rattle.job.proofs.RecordLaws.{refused_15, refused_16, record_not_refused}
use Rattle.job.proofs.loader.check_record.Goals as goal

pub returns-in-Err : goal.returns-in-Err
returns-in-Err c = refused_15 c.args.«record».now c.in-Err.field-0 (sym c.in-Err.ensures)

pub returns-in-Ok : goal.returns-in-Ok
returns-in-Ok c = refused_16 c.args.«record».now c.in-Ok.depth (sym c.in-Ok.ensures) c.if-depth-gt-MOST_RECORD_DEPTH.true

pub returns-in-Ok-2 : goal.returns-in-Ok-2
returns-in-Ok-2 c = record_not_refused c.args.«record».now c.in-Ok.depth (sym c.in-Ok.ensures) c.if-depth-gt-MOST_RECORD_DEPTH.false
