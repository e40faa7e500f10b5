-- `job::loader::check_tables` meets its contract: the target, then the forms.
use mathlib.Core.Path.{◌∙◌, ap}
use mathlib.Core.Bool.{decide}
use Rattle.automata.specs.Decide.TargetBody.{valid_target?}
use Rattle.contents.specs.Contents.{target_body}
use Rattle.job.specs.File.{form_rules, rule14}
use Rattle.job.proofs.Refusals.{test_fails, test_holds}
use Rattle.job.proofs.loader.check_tables.Goals as goal

pub returns-then-target_ok : goal.returns-then-target_ok
returns-then-target_ok c =
    let file = c.args.bodies.file.now in
    let told = c.target_ok.ensures ∙ ap (λ b. decide (valid_target? b)) c.target.ensures in
    rw (test_holds 13 (valid_target? (target_body file)) (form_rules (rule14 file)) _ told c.if-target_ok.true) c.check_forms.ensures

pub returns-else-target_ok : goal.returns-else-target_ok
returns-else-target_ok c =
    let file = c.args.bodies.file.now in
    let told = c.target_ok.ensures ∙ ap (λ b. decide (valid_target? b)) c.target.ensures in
    test_fails 13 (valid_target? (target_body file)) (form_rules (rule14 file)) _ told c.if-target_ok.false
