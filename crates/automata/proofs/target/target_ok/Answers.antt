-- `automata::target::target_ok` meets its contract: each test is one field of the definition.
use mathlib.Core.Path.{◌∙◌}
use native.Mathlib.Omega.{arith}
use Rattle.std.proofs.lemmas.Bool.Decides.{nat_tests}
use Rattle.automata.proofs.TargetTest.{target_refused, target_mask_shifted, tables_left}
use Rattle.automata.proofs.target.target_ok.Goals as goal

pub returns-then-body-lt-TARGET_HEAD : goal.returns-then-body-lt-TARGET_HEAD
returns-then-body-lt-TARGET_HEAD c = target_refused _ (λ v. omega arith)

pub returns-then-read_four-n-eq0 : goal.returns-then-read_four-n-eq0
returns-then-read_four-n-eq0 c =
    tables_left _ (grind (arith, nat_tests)) (grind (arith, nat_tests)) (grind (arith, nat_tests)) (grind (arith, nat_tests))
    (grind (arith, nat_tests)) _ (rw (← c.from-n.ensures) c.all_below.ensures)

pub returns-else-read_four-n-eq0 : goal.returns-else-read_four-n-eq0
returns-else-read_four-n-eq0 c =
    c.if-read_four-n-eq0.false ∙ target_refused _ (λ v.
    let some = v.some_state in
    let few = v.few_states in
    let long = v.long in
    let start = v.start_state in
    let mask = target_mask_shifted _ v in
    grind (arith, nat_tests))
