-- `automata::reply::rules_ok` meets its contract. The invariant: every rule passed is valid.
use Rattle.automata.specs.Inner.Rules.{RulesValid}
use Rattle.automata.proofs.reply.rules_ok.Given as goal

abbrev pub invariant-loop-i : goal.invariant-loop-i
invariant-loop-i l = RulesValid l.body l.m l.openings l.i
