-- `advice::opening_advice` meets its contract.
use Rattle.std.proofs.Common.{◌≡◌, ◌∷◌, Bool, true, false, sym, ◌∙◌, arith}
use Rattle.words.specs.Stack.{newest_first}
use Rattle.words.specs.Tag.{opening, word_of}
use Rattle.automata.specs.Target.{at}
use Rattle.game.specs.Advice.{AdviceIs}
use Rattle.game.specs.Game.{Game}
use Rattle.game.proofs.AdviceRule.{advice_number}
use Rattle.solver.specs.Inner.PlayedWith.{PlayedWith}
use Rattle.advice.proofs.AdviceLaws.{opening_advised}
use Rattle.advice.proofs.opening_advice.Goals as goal
use Rattle.advice.proofs.opening_advice.Goals.{After-has}

-- the advice by what the test said
advises : (c : After-has) (b : Bool) → c.has.result ≡ b → let a = c.args in
    (G : Game) → PlayedWith G a.solver.target.bytes.now a.solver.sets.now →
    AdviceIs G (opening a.c ∷ word_of a.rest.now) (at a.state (newest_first a.kept.states a.kept.depth)) (advice_number b false)
advises c b e =
    let a = c.args in
    let won = c.won_states-won in
    let read = c.open_to-read in
    opening_advised a.kept.states a.kept.depth a.c a.state read.result won.result a.solver.target.valid c.requires.0 c.requires.1
    (omega arith) c.requires.3 (rw c.push.ensures at won.ensures) read.ensures b (sym c.has.ensures ∙ e)

pub returns-then-has : goal.returns-then-has
returns-then-has c = advises (goal.at.returns-then-has c).After-has true c.if-has.true

pub returns-else-has : goal.returns-else-has
returns-else-has c = advises (goal.at.returns-else-has c).After-has false c.if-has.false
