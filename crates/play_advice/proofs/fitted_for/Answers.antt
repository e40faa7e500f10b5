-- `fitted_for` meets its contract: where nothing is refused, the play fits.
use mathlib.Core.Path.{◌≡◌, subst}
use Rattle.std.specs.Prelude.{Ok}
use Rattle.std.proofs.lemmas.Grind.{merely}
use Rattle.job.specs.RefusalNumber.{RefusedBy}
use Rattle.play_advice.specs.Advice.{advice_refusal}
use Rattle.play_advice.proofs.AdviceRefusals.{advice_passed}
use Rattle.play_advice.proofs.fitted_for.Goals as goal

pub invariant_of-result : goal.invariant_of-result
invariant_of-result c =
    let file = c.args.file.now in
    let p = c.args.p in
    let (answer, same, effects) = c.in_ok-asked.ensures in
    let accepted : c.in_ok-asked.asked.answer ≡ Ok c.in_ok-asked-2.field-0 = cc in
    let passed = subst (RefusedBy (advice_refusal file p)) accepted answer in
    rw same (record { fits = (advice_passed file p passed).1; found = merely effects })
