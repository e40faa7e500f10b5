use Rattle.std.proofs.Common.{◌≡◌, ℕ, suc, ◌+◌, ◌-◌, List, subst, arith}
use Rattle.words.specs.Stack.{newest_first}
use Rattle.words.specs.Tag.{word_of}
use Rattle.words.specs.Inner.Rest.{closing_index}
use Rattle.words.proofs.Innermost.{Innermost, innermost}
use Rattle.job.specs.Record.{most_record_depth}
use Rattle.solver.proofs.Evaluated.{judgeable_before}
use Rattle.advice.specs.Inner.WonFrom.{WonFrom, Left}
use Rattle.advice.proofs.LeftLaws.{drop_whole, left_outer}
use Rattle.advice.proofs.WonFromLaws.{won_whole, won_inside}
use Rattle.advice.proofs.+won_states.Goals as goal

-- some element is open, and depth - 1 many around it
module _ {target sets rest kept : List ℕ} {depth : ℕ} (l : Left target sets rest kept depth) (some : depth ≡ 0 → ⊥) where
  one_more : suc (depth - 1) ≡ depth
  one_more = omega arith

  left_here : Left target sets rest kept (suc (depth - 1))
  left_here = rw one_more l

  -- the closing tag of the innermost open element
  at_closing : (j : ℕ) → j ≡ closing_index (word_of rest) 0 → Innermost most_record_depth (depth - 1) rest j
  at_closing j = innermost rest j left_here.suffix

pub returns-then-kept-eq0 : goal.returns-then-kept-eq0
returns-then-kept-eq0 t c =
    let a = c.args in
    let none_open = c.if-kept-eq0.true in
    let l = subst (λ d. Left a.solver.target.bytes.now a.solver.sets.now a.rest.now a.kept.states d) none_open c.requires in
    rw none_open (won_whole c.args.solver.target.valid l c.accepting-goal.ensures c.forest-whole.ensures)

pub bounds-rest-j : goal.bounds-rest-j
bounds-rest-j t c = (at_closing c.requires c.if-kept-eq0.false _ c.closing_index-j.ensures).within

pub overflow_add-j : goal.overflow_add-j
overflow_add-j t c = omega (arith, (at_closing c.requires c.if-kept-eq0.false _ c.closing_index-j.ensures).within)

pub slice_bounds-won_states-count : goal.slice_bounds-won_states-count
slice_bounds-won_states-count t c = omega (arith, (at_closing c.requires c.if-kept-eq0.false _ c.closing_index-j.ensures).within)

pub slice_bounds-won_states-start : goal.slice_bounds-won_states-start
slice_bounds-won_states-start t c = omega (arith, (at_closing c.requires c.if-kept-eq0.false _ c.closing_index-j.ensures).within)

pub won_states-outer-requires : goal.won_states-outer-requires
won_states-outer-requires t c =
    let i = at_closing c.requires c.if-kept-eq0.false _ c.closing_index-j.ensures in
    let whole = drop_whole c.args.rest.now (c.closing_index-j.result + 1) in
    rw c.pop-q.ensures.1 (omega arith, rw whole (left_outer (left_here c.requires c.if-kept-eq0.false) i))

pub forest-inside-requires : goal.forest-inside-requires
forest-inside-requires t c =
    let i = at_closing c.requires c.if-kept-eq0.false _ c.closing_index-j.ensures in
    judgeable_before c.requires.judgeable c.closing_index-j.result (omega (arith, i.within))

pub returns : goal.returns
returns t c =
    let a = c.args in
    let some = c.if-kept-eq0.false in
    let i = at_closing c.requires some _ c.closing_index-j.ensures in
    let outer = c.won_states-outer in
    let Won : List ℕ → List ℕ → ℕ → Type 0 = λ rest ks m. WonFrom a.solver.target.bytes.now a.solver.sets.now (word_of rest) ks m in
    let won = subst (λ rest. Won rest (newest_first a.kept.states (a.kept.depth - 1)) outer.result)
    (drop_whole a.rest.now (c.closing_index-j.result + 1)) (rw c.pop-q.ensures.1 at outer.ensures) in
    let goal = rw (c.code_of-c.ensures.closing i.closes, c.pop-q.ensures.0) at c.inner_goal-goal.ensures in
    subst (λ d. Won a.rest.now (newest_first a.kept.states d) c.forest-inside.result.states) (one_more c.requires some)
    (won_inside outer.result c.forest-inside.result.states a.solver.target.valid (left_here c.requires some) i won goal
    c.forest-inside.ensures)
