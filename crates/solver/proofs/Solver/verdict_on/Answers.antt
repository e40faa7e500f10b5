-- `solver::Solver::verdict_on` meets its contract: the start state is asked of the set that the evaluators find for the whole record.
use mathlib.Core.Path.{sym, ◌∙◌, ap, subst}
use Rattle.words.specs.Tag.{word_of}
use Rattle.automata.specs.Bits.{bit}
use Rattle.solver.specs.Inner.PlayedWith.{Decides}
use Rattle.solver.proofs.VerdictLaws.{record_decided}
use Rattle.solver.proofs.Solver.verdict_on.Goals as goal

pub returns : goal.returns
returns c =
    λ G p.
    let bytes = c.args.«record».now in
    let won = c.forest-whole.result.states in
    let asked = c.has.ensures ∙ ap (λ q. bit won q) c.start.ensures.is in
    subst (λ r. Decides G (word_of bytes) r) (sym asked)
    (record_decided c.args.self.target.bytes.now c.args.self.sets.now bytes c.args.self.target.valid c.requires.1 _ _ won
    c.accepting.ensures c.forest-whole.ensures G p)
