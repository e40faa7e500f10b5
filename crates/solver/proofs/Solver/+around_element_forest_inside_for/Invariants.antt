-- The cycle of calls of the evaluators. `forest` calls `element` for elements that end no later, `element` calls `forest` and `around` for
-- the inside, which ends before the closing tag, `around` calls `inside_for` for the same inside, and `inside_for` calls `forest`. So the
-- measure is 4 end for `element`, 1 more for `forest`, 2 more for `inside_for` and 3 more for `around`.
use Rattle.std.proofs.Common.{◌+◌, ◌*◌}
use Rattle.solver.specs.Inner.Evaluated.{by_states, InsideJudged}
use Rattle.solver.proofs.Walked.{Walked}
use Rattle.solver.proofs.Evaluated.{AroundBelow}
use Rattle.solver.proofs.Solver.+around_element_forest_inside_for.Given as goal

abbrev pub decreases-around : goal.decreases-around
decreases-around l = 4 * l.end + 3

abbrev pub decreases-element : goal.decreases-element
decreases-element l = 4 * l.end

abbrev pub decreases-forest : goal.decreases-forest
decreases-forest l = 4 * l.end + 1

abbrev pub decreases-inside_for : goal.decreases-inside_for
decreases-inside_for l = 4 * l.end + 2

-- the inside was judged for two goals, and the states below q have been looked at
abbrev pub invariant-around-loop-q : goal.invariant-around-loop-q
invariant-around-loop-q l =
    InsideJudged l.self.target.bytes.now l.self.sets.now l.«record» l.end l.known ×
    AroundBelow l.self.target.bytes.now l.self.sets.now l.«record» l.end l.c l.goal l.q l.found

-- what is left of the forest ends at `start`, and `states` are won after that
abbrev pub invariant-forest-loop-start : goal.invariant-forest-loop-start
invariant-forest-loop-start l = Walked (by_states l.self.target.bytes.now l.self.sets.now) l.«record» l.end l.goal l.start l.states

abbrev pub decreases-forest-loop-start : goal.decreases-forest-loop-start
decreases-forest-loop-start l = l.start
