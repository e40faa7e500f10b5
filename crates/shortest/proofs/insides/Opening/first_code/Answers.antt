use Rattle.std.proofs.Common.{sym, ◌∙◌, arith}
use Rattle.std.proofs.Math.Bool.{true≢false}
use Rattle.shortest.proofs.ChooseLaws.{none_yet, none_more, some_chosen}
use Rattle.shortest.proofs.insides.Opening.first_code.Goals as goal

pub loop-c-init : goal.loop-c-init
loop-c-init c = rw c.requires (none_yet _ _ _ _ _)

pub returns-then-has_any : goal.returns-then-has_any
returns-then-has_any c =
    let l = c.loop-c in
    some_chosen _ _ _ _ _ l.c l.invariant c.open_code.ensures (omega arith) (c.has_any.ensures.0 c.if-has_any.true)

pub loop-c-preserved : goal.loop-c-preserved
loop-c-preserved c =
    let l = c.loop-c in
    none_more _ _ _ _ _ l.c l.invariant c.open_code.ensures
    (λ a y ha hy m. true≢false (sym (c.has_any.ensures.1 (a, y, ha, hy, m)) ∙ c.if-has_any.false))
