-- `automata::reply::reply_ok` meets its contract: each test is one field of the definition.
use mathlib.Core.Path.{◌∙◌}
use native.Mathlib.Omega.{arith}
use Rattle.std.proofs.lemmas.Bool.Decides.{nat_tests}
use Rattle.automata.proofs.ReplyTables.{reply_refused, judged, reply_mask_shifted}
use Rattle.automata.proofs.reply.reply_ok.Goals as goal

pub returns-then-body-lt-REPLY_HEAD : goal.returns-then-body-lt-REPLY_HEAD
returns-then-body-lt-REPLY_HEAD c = reply_refused _ (λ v. omega arith)

pub returns-then-body-rules : goal.returns-then-body-rules
returns-then-body-rules c =
    let o = c.read_two-openings.ensures.0 in
    let k = c.read_two-closings.ensures.0 in
    judged _ (grind (arith, nat_tests)) (grind (arith, nat_tests)) (grind (arith, nat_tests)) (grind (arith, nat_tests))
    (grind (arith, nat_tests)) (grind (arith, nat_tests)) (grind (arith, nat_tests)) _ (rw (o, k, c.from-m.ensures) at c.rules_ok.ensures)

pub returns-else-body-rules : goal.returns-else-body-rules
returns-else-body-rules c =
    c.if-body-rules.false ∙ reply_refused _ (λ v.
    let some = v.some_state in
    let few = v.few_states in
    let openings = v.few_openings in
    let closings = v.few_closings in
    let start = v.start_state in
    let long = v.long in
    let mask = reply_mask_shifted _ v in
    grind (arith, nat_tests))
