-- `advice::closing_advice` meets its contract.
use Rattle.std.proofs.Common.{◌≡◌, ◌∷◌, Bool, true, false, refl, sym, ◌∙◌}
use Rattle.words.specs.Stack.{newest_first}
use Rattle.words.specs.Tag.{closing, word_of}
use Rattle.automata.specs.Target.{at}
use Rattle.automata.proofs.TargetTables.{state_small}
use Rattle.game.specs.Advice.{AdviceIs}
use Rattle.game.specs.Game.{Game}
use Rattle.game.proofs.AdviceRule.{advice_number}
use Rattle.solver.specs.Inner.PlayedWith.{PlayedWith}
use Rattle.advice.proofs.AdviceLaws.{closing_advised}
use Rattle.advice.proofs.closing_advice.Goals as goal
use Rattle.advice.proofs.closing_advice.Goals.{After-fetch_wins-fetches}

-- the advice by what the two tests said
advises : (c : After-fetch_wins-fetches) (b f : Bool) → c.has-reads.result ≡ b → c.fetch_wins-fetches.result ≡ f → let a = c.args in
    (G : Game) → PlayedWith G a.solver.target.bytes.now a.solver.sets.now →
    AdviceIs G (closing a.c ∷ word_of a.rest.now) (at a.state (newest_first a.kept.states a.kept.depth)) (advice_number b f)
advises c b f reads fetches =
    let a = c.args in
    let won = c.won_states-won in
    let read = c.close_to-read in
    closing_advised a.kept.states a.kept.depth a.c read.result won.result a.state a.solver.target.valid c.requires.0 c.requires.2
    (rw c.pop-q.ensures.1 at won.ensures) (rw c.pop-q.ensures.0 at read.ensures) b f (sym c.has-reads.ensures ∙ reads)
    (rw c.pop-q.ensures.0 at (sym c.fetch_wins-fetches.ensures ∙ fetches))

pub fetch_wins-fetches-requires : goal.fetch_wins-fetches-requires
fetch_wins-fetches-requires c =
    let target = c.args.solver.target in
    let small = state_small target.bytes.now target.valid _ c.requires.0.newest_state in
    rw c.pop-q.ensures.0 (c.requires.1, small)

pub returns-then-reads : goal.returns-then-reads
returns-then-reads c = advises (goal.at.returns-then-reads c).After-fetch_wins-fetches true _ (cc) refl

pub returns-then-fetches : goal.returns-then-fetches
returns-then-fetches c = advises (goal.at.returns-then-fetches c).After-fetch_wins-fetches false true (cc) (cc)

pub returns : goal.returns
returns c = advises (goal.at.returns c).After-fetch_wins-fetches false false (cc) (cc)
