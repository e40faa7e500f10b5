-- `contents::form_entry` meets its contract: the forms' entries follow the target's.
use native.Mathlib.Omega.{arith}
use Rattle.contents.proofs.ContentLaws.{form_between, form_entry_lem}
use Rattle.contents.proofs.form_entry.Goals as goal

pub overflow_sub-result : goal.overflow_sub-result
overflow_sub-result c = let h = (form_between c.args.code c.requires).0 in omega arith

pub returns : goal.returns
returns c =
    let (l, h) = form_between c.args.code c.requires in
    let e = form_entry_lem c.args.code c.requires in
    (omega arith, omega arith)
