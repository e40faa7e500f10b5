-- `advice::advice_from` meets its contract.
use Rattle.std.proofs.Common.{◌≡◌, ◌∷◌, ◌+◌, ◌-◌, ◌<◌, Bool, true, cond, set, sym, ◌∙◌, subst, arith}
use Rattle.words.specs.Stack.{newest_first}
use Rattle.words.specs.Inner.Rest.{Rest, Closes}
use Rattle.words.specs.Tag.{opening, closing, codes, word_of}
use Rattle.automata.specs.Target.{at}
use Rattle.automata.proofs.TargetTables.{state_small}
use Rattle.job.specs.Record.{most_record_depth}
use Rattle.game.specs.Advice.{AdviceIs}
use Rattle.game.specs.Game.{Game}
use Rattle.solver.specs.Inner.PlayedWith.{PlayedWith}
use Rattle.advice.specs.Inner.WonFrom.{Left, LeftPast}
use Rattle.advice.specs.AdviceNumber.{advice_number}
use Rattle.advice.specs.Kept.{play_slots}
use Rattle.advice.proofs.LeftLaws.{left_opening, left_closing}
use Rattle.advice.proofs.AdviceLaws.{finished}
use Rattle.advice.proofs.advice_from.Goals as goal
use Rattle.advice.proofs.advice_from.Goals.{After-has, Then-is_opening, Else-is_opening}

-- no tag is left: the advice by what the test said
ends : (c : After-has) (b : Bool) → c.has.result ≡ b → let a = c.args in
    (G : Game) → PlayedWith G a.solver.target.bytes.now a.solver.sets.now →
    AdviceIs G (word_of a.rest.now) (at a.state (newest_first a.kept.states a.kept.depth)) (cond b 3 4)
ends c b e =
    let a = c.args in
    let met = sym (c.accepting.ensures a.state) ∙ sym c.has.ensures ∙ e in
    finished a.kept.states a.kept.depth a.state c.requires.0 c.in_default.ensures.cases b met

-- at an opening tag, and at a closing tag: what is left after it
opens : (c : Then-is_opening) → let a = c.args in let later = c.in-Some.later.now in
    (word_of a.rest.now ≡ opening c.in-Some.tag.now ∷ word_of later) × (a.kept.depth < play_slots) ×
    Left a.solver.target.bytes.now a.solver.sets.now later (set a.kept.states a.kept.depth a.state) (a.kept.depth + 1)
opens c =
    let e = c.in-Some.ensures.cases.0 in
    rw e
    (left_opening c.args.state (rw e at c.requires.0) (omega arith) (c.is_opening.ensures.opening c.if-is_opening.true) c.requires.1
    (omega arith))

closes : (c : Else-is_opening) → let a = c.args in let later = c.in-Some.later.now in
    (word_of a.rest.now ≡ closing (c.in-Some.tag.now - codes) ∷ word_of later) ×
    LeftPast a.solver.target.bytes.now a.solver.sets.now later a.kept.states a.kept.depth
closes c =
    let e = c.in-Some.ensures.cases.0 in
    rw e (left_closing (rw e at c.requires.0) (omega arith) (c.is_opening.ensures.closing c.if-is_opening.false))

pub has-requires : goal.has-requires
has-requires c = state_small c.args.solver.target.bytes.now c.args.solver.target.valid c.args.state c.requires.1

pub returns-then-has : goal.returns-then-has
returns-then-has c = ends (goal.at.returns-then-has c).After-has true c.if-has.true

pub opening_advice-requires : goal.opening_advice-requires
opening_advice-requires c =
    let l = opens c in
    let code = c.code_of-c.ensures in
    let tag = code.opening (c.is_opening.ensures.opening c.if-is_opening.true) in
    let word = subst (λ n. Closes c.args.kept.depth (opening n ∷ word_of c.in-Some.later.now)) (sym tag)
    (most_record_depth, subst (λ w. Rest most_record_depth c.args.kept.depth w) l.0 c.requires.0.suffix) in
    (l.2, word, code.small, c.requires.1, l.1)

pub returns-then-is_opening : goal.returns-then-is_opening
returns-then-is_opening c =
    let a = c.args in
    let tag = c.code_of-c.ensures.opening (c.is_opening.ensures.opening c.if-is_opening.true) in
    let here = at a.state (newest_first a.kept.states a.kept.depth) in
    let result = advice_number c.opening_advice.result in
    λ G p. subst (λ w. AdviceIs G w here result) (sym (opens (goal.at.returns-then-is_opening c).Then-is_opening).0)
    (subst (λ n. AdviceIs G (opening n ∷ word_of c.in-Some.later.now) here result) tag (c.opening_advice.ensures G p))

pub closing_advice-requires : goal.closing_advice-requires
closing_advice-requires c = ((closes c).1, c.code_of-c.ensures.small, c.requires.1)

pub returns : goal.returns
returns c =
    let a = c.args in
    let tag = c.code_of-c.ensures.closing (c.is_opening.ensures.closing c.if-is_opening.false) in
    let here = at a.state (newest_first a.kept.states a.kept.depth) in
    let result = advice_number c.closing_advice.result in
    λ G p. subst (λ w. AdviceIs G w here result) (sym (closes (goal.at.returns c).Else-is_opening).0)
    (subst (λ n. AdviceIs G (closing n ∷ word_of c.in-Some.later.now) here result) tag (c.closing_advice.ensures G p))
