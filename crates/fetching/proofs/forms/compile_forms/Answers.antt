use mathlib.Core.Path.{◌≡◌}
use Prim.Native.Nat.{◌+◌, ◌*◌}
use native.Mathlib.Omega.{arith}
use Rattle.replies.specs.Inner.Transitions.{transition_count}
use Rattle.replies.proofs.TransitionLaws.{room_part, bare_part, compiled_part}
use Rattle.contents.proofs.ContentLaws.{form_list_at, form_list_has}
use Rattle.job.specs.File.{form_in}
use Rattle.fetching.proofs.FormLaws.{forms_none, forms_more, forms_all}
use Rattle.fetching.proofs.forms.compile_forms.Goals as goal

pub loop-c-init : goal.loop-c-init
loop-c-init c = rw c.requires (forms_none _)

pub form-requires : goal.form-requires
form-requires c = form_list_has c.loop-c.c-index c.loop-c-test.true

pub compile_rules-requires : goal.compile_rules-requires
compile_rules-requires c =
    let base = transition_count * (12 + c.loop-c.c-index) in
    let known = c.loop-c.invariant in
    rw (form_list_at c.loop-c.c-index c.loop-c-test.true)
    (room_part base c.loop-c.table (omega (arith, known.long, c.loop-c-test.true)), bare_part base c.loop-c.table known.bare)

pub loop-c-preserved : goal.loop-c-preserved
loop-c-preserved c =
    let file = c.args.file.file.now in
    let n = 12 + c.loop-c.c-index in
    let table = c.loop-c.table in
    let known = c.loop-c.invariant in
    let at = form_list_at c.loop-c.c-index c.loop-c-test.true in
    let done = rw (c.form.ensures, at) at c.compile_rules.ensures in
    rw at
    (forms_more file c.loop-c.c-index known
    (compiled_part (transition_count * n) table (form_in file n) _ (omega (arith, known.long, c.loop-c-test.true)) done))

pub returns : goal.returns
returns c =
    let last = c.loop-c in
    let e : 12 + last.c-index ≡ 16 = omega arith in
    forms_all _ (rw e at last.invariant)
