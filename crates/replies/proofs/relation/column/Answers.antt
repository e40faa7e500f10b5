-- `replies::relation::column` meets its contract.
use Rattle.replies.proofs.RelationLaws.{column_of}
use Rattle.replies.proofs.relation.column.Goals as goal

pub returns : goal.returns
returns c = column_of c.args.m c.args.b
