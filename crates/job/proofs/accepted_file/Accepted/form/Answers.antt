-- `job::accepted_file::Accepted::form` meets its contract: the forms of an accepted file are valid.
use Rattle.job.proofs.Accepted.{is_accepted}
use Rattle.job.proofs.accepted_file.Accepted.form.Goals as goal

pub invariant_of-result : goal.invariant_of-result
invariant_of-result c =
    record { valid = rw (c.form.ensures, c.bodies.ensures) ((is_accepted _ c.args.self.found.accepted).bodies.reply _ c.requires) }
