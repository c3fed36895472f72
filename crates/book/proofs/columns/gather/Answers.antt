use native.Mathlib.Omega.{arith}
use borrow.Author.Rules.{rules}
use Rattle.book.proofs.ColumnLaws.{gathered_none, gathered_turn, gathered_all}
use Rattle.book.proofs.columns.gather.Goals as goal

pub loop-p-init : goal.loop-p-init
loop-p-init c = (search rules, gathered_none)

pub loop-p-preserved : goal.loop-p-preserved
loop-p-preserved c =
    let loop = c.loop-p in
    let byte = rw c.place_at.ensures at c.byte_at.ensures in
    (search rules, gathered_turn _ loop.invariant.1 (omega arith) byte)

pub returns : goal.returns
returns c = gathered_all c.loop-p.invariant.0 c.loop-p-test.false c.loop-p.invariant.1
