use native.Mathlib.Nat.{le_antisymm}
use borrow.Author.Rules.{rules}
use Rattle.book.proofs.Passes.{passed_none, passed_next}
use Rattle.book.proofs.closure.pass.Goals as goal

pub loop-p-init : goal.loop-p-init
loop-p-init c = (search rules, passed_none (search rules))

pub loop-p-preserved : goal.loop-p-preserved
loop-p-preserved c = (search rules, passed_next c.loop-p-test.true c.loop-p.invariant.1 c.applied-after.ensures)

pub returns : goal.returns
returns c = rw (le_antisymm c.loop-p.invariant.0 c.loop-p-test.false) at c.loop-p.invariant.1
