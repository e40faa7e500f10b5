use mathlib.Core.Path.{sym, ◌∙◌}
use native.Mathlib.Omega.{arith}
use Rattle.effects.proofs.EffectLaws.{no_reply_at}
use Rattle.contents.specs.Contents.{has_form}
use Rattle.contents.proofs.ContentLaws.{form_list_has}
use Rattle.job.specs.File.{rule17}
use Rattle.job.proofs.FormRules.{decides_all, decides_none, decides_more, decides_here}
use Rattle.job.proofs.loader.check_replies.Goals as goal

pub loop-c-init : goal.loop-c-init
loop-c-init c = λ A forms closed few e. decides_all _

pub returns-then-set-eq0 : goal.returns-then-set-eq0
returns-then-set-eq0 c =
    λ A forms closed few e.
    let turn = c.loop-c in
    let form = form_list_has turn.c-index c.loop-c-test.true in
    let none-at = no_reply_at A has_form forms _ e _ 0 form (omega (arith, closed.start_below)) closed few in
    let none = none-at.0 (sym c.set.ensures ∙ c.if-set-eq0.true) in
    decides_here (rule17 forms) (turn.invariant A forms closed few e) c.loop-c-test.true none

pub loop-c-preserved : goal.loop-c-preserved
loop-c-preserved c =
    λ A forms closed few e.
    let turn = c.loop-c in
    let form = form_list_has turn.c-index c.loop-c-test.true in
    let none-at = no_reply_at A has_form forms _ e _ 0 form (omega (arith, closed.start_below)) closed few in
    decides_more (rule17 forms) (turn.invariant A forms closed few e) c.loop-c-test.true
    (λ none. c.if-set-eq0.false (c.set.ensures ∙ none-at.1 none))

pub returns : goal.returns
returns c = λ A forms closed few e. decides_none (rule17 forms) (c.loop-c.invariant A forms closed few e) c.loop-c-test.false
