-- `replies::relation::row` meets its contract.
use Rattle.replies.proofs.RelationLaws.{bit_row}
use Rattle.replies.proofs.relation.row.Goals as goal

pub returns : goal.returns
returns c = bit_row c.args.m c.args.a
