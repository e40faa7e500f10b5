-- `job::loader::check_forms` meets its contract: the codes passed have valid forms.
use Rattle.job.specs.File.{rule14}
use Rattle.job.proofs.FormRules.{DecidesForms}
use Rattle.job.proofs.loader.check_forms.Given as goal

abbrev pub invariant-loop-c : goal.invariant-loop-c
invariant-loop-c l = DecidesForms (rule14 l.bodies.file.now) l.c-index
