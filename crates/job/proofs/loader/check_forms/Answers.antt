use mathlib.Core.Path.{sym, ◌∙◌}
use Rattle.words.proofs.Decided.{decided_true, decided_false}
use Rattle.automata.specs.Decide.ReplyBody.{valid_reply?}
use Rattle.contents.proofs.ContentLaws.{form_list_has}
use Rattle.job.specs.File.{rule14}
use Rattle.job.proofs.FormRules.{decides_all, decides_none, decides_more, decides_here}
use Rattle.job.proofs.loader.check_forms.Goals as goal

pub loop-c-init : goal.loop-c-init
loop-c-init c = decides_all _

pub returns-then-not-reply_ok : goal.returns-then-not-reply_ok
returns-then-not-reply_ok c =
    let bad = decided_false (valid_reply? _) (sym c.reply_ok.ensures ∙ c.if-not-reply_ok.true) in
    decides_here (rule14 c.args.bodies.file.now) c.loop-c.invariant c.loop-c-test.true (rw c.form.ensures at bad)

pub loop-c-preserved : goal.loop-c-preserved
loop-c-preserved c =
    let good = decided_true (valid_reply? _) (sym c.reply_ok.ensures ∙ c.if-not-reply_ok.false) in
    decides_more (rule14 c.args.bodies.file.now) c.loop-c.invariant c.loop-c-test.true (λ n. n (rw c.form.ensures at good))

pub returns : goal.returns
returns c = decides_none (rule14 c.args.bodies.file.now) c.loop-c.invariant c.loop-c-test.false

pub form-requires : goal.form-requires
form-requires c = form_list_has c.loop-c.c-index c.loop-c-test.true
