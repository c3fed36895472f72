use Rattle.sets.proofs.Promise.{decides_true, decides_false}
use Rattle.answers.proofs.Promise.{search_begun, search_next, search_some, search_none}
use Rattle.checker.proofs.differences.first_different.Goals as goal

pub loop-i-init : goal.loop-i-init
loop-i-init c = search_begun

pub returns-then-cell_differs : goal.returns-then-cell_differs
returns-then-cell_differs c = search_some c.loop-i.invariant c.loop-i-test.true (decides_true _ c.cell_differs.result c.cell_differs.ensures c.if-cell_differs.true)

pub loop-i-preserved : goal.loop-i-preserved
loop-i-preserved c =
    search_next c.loop-i.invariant c.loop-i-test.true
    (decides_false _ c.cell_differs.result c.cell_differs.ensures c.if-cell_differs.false)

pub returns : goal.returns
returns c = search_none c.loop-i.invariant c.loop-i-test.false
