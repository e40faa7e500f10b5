use Rattle.std.proofs.Common.{◌-◌, ◌^◌, cond, ap, ◌∙◌, arith}
use Rattle.std.specs.Int.Bits.{bit_or}
use Rattle.automata.proofs.TargetTables.{target_closed}
use Rattle.solver.proofs.Walked.{walked_more, walked_to_start, walked_to_opening}
use Rattle.solver.proofs.Evaluated.{around_none, around_more, states_agree, judged_nothing, judged_everything, element_empty}
use Rattle.solver.proofs.Evaluated.{element_around}
use Rattle.solver.proofs.Solver.+around_element_forest_inside_for.Goals as goal

pub around-loop-q-init : goal.around-loop-q-init
around-loop-q-init t c = (c.requires.2, around_none c.args.self.target.valid c.requires.0 _ _)

pub around-loop-q-preserved : goal.around-loop-q-preserved
around-loop-q-preserved t c =
    let l = c.loop-q in
    let next = c.inner_goal-next in
    let judged = c.inside_for-won in
    let p = c.open_to-p in
    let found = c.taken-found.ensures ∙ ap (λ b. cond b (bit_or l.found (2 ^ l.q)) l.found) c.has.ensures in
    rw found (
      judged.ensures.kept,
      around_more c.args.self.target.valid c.requires.0 c.args.c c.args.goal l.q l.found l.invariant.1 next.result judged.result p.result
          next.ensures judged.ensures.asked p.ensures.is p.ensures.one_of,
    )

pub element-returns-then-is_opening : goal.element-returns-then-is_opening
element-returns-then-is_opening t c =
    let a = c.args in
    element_empty _ _ a.end c.requires.0.within a.goal (a.end - 1) (omega arith) c.requires.2 c.code_of-c.result
    (c.code_of-c.ensures.closing c.requires.2) (a.end - 1 - 1) (omega arith) (c.is_opening.ensures.opening c.if-is_opening.true)
    c.around_nothing.result c.around_nothing.ensures

pub element-inner_goal-first-requires : goal.element-inner_goal-first-requires
element-inner_goal-first-requires t c =
    let k = (target_closed c.args.self.target.bytes.now c.args.self.target.valid).start_below in
    (omega arith, c.code_of-c.ensures.small)

pub element-returns : goal.element-returns
element-returns t c =
    let a = c.args in
    let j = c.forest-j in
    rw c.saturating_sub.ensures (element_around _ _ a.end c.requires.0.within a.goal (a.end - 1) (omega arith) c.requires.2
    c.code_of-c.result (c.code_of-c.ensures.closing c.requires.2) _ j.result.start j.result.states c.around.result j.ensures
    c.around.ensures)

pub forest-returns-then-is_opening : goal.forest-returns-then-is_opening
forest-returns-then-is_opening t c =
    let l = c.loop-start in
    let a = c.requires in
    let agree = states_agree c.args.self.target.valid a in
    walked_to_opening _ agree a.within c.args.goal l.start l.states l.invariant (l.start - 1) (omega arith)
    (c.is_opening.ensures.opening c.if-is_opening.true)

pub forest-loop-start-preserved : goal.forest-loop-start-preserved
forest-loop-start-preserved t c =
    let l = c.loop-start in
    let a = c.requires in
    let j = c.element-j in
    let agree = states_agree c.args.self.target.valid a in
    walked_more _ agree a.within c.args.goal l.start l.states l.invariant (l.start - 1) (omega arith)
    (c.is_opening.ensures.closing c.if-is_opening.false) j.result.start j.result.states j.ensures

pub forest-returns : goal.forest-returns
forest-returns t c =
    let l = c.loop-start in
    let a = c.requires in
    walked_to_start _ (states_agree c.args.self.target.valid a) a.within c.args.goal l.start l.states l.invariant (omega arith)

pub inside_for-returns-then-goal-eq0 : goal.inside_for-returns-then-goal-eq0
inside_for-returns-then-goal-eq0 t c =
    record { asked = rw c.if-goal-eq0.true (judged_nothing c.args.self.target.valid c.requires.0); kept = c.requires.1 }

pub inside_for-returns-then-goal-every : goal.inside_for-returns-then-goal-every
inside_for-returns-then-goal-every t c =
    let full = c.if-goal-every.true ∙ c.every.ensures ∙ ap (λ n. 2 ^ n - 1) c.states.ensures.0 in
    record { asked = judged_everything c.args.self.target.valid c.requires.0 c.args.goal full; kept = c.requires.1 }
