-- `job::accepted_file::Accepted::bodies` meets its contract: the contents of an accepted file are valid.
use Rattle.job.proofs.Accepted.{located}
use Rattle.job.proofs.accepted_file.Accepted.bodies.Goals as goal

pub invariant_of-result : goal.invariant_of-result
invariant_of-result c = record { located = located _ _ c.args.self.found }
