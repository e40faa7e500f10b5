-- `job::accepted_file::Accepted::target` meets its contract: the target of an accepted file is valid.
use Rattle.job.proofs.Accepted.{is_accepted}
use Rattle.job.proofs.accepted_file.Accepted.target.Goals as goal

pub invariant_of-result : goal.invariant_of-result
invariant_of-result c =
    record { valid = rw (c.target.ensures, c.bodies.ensures) (is_accepted _ c.args.self.found.accepted).bodies.target }
