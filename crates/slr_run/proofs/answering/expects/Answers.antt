use Prim.Native.Nat.{◌+◌}
use native.Mathlib.Omega.{arith}
use Rattle.sets.proofs.Promise.{none_is}
use Rattle.slr_run.specs.Running.{slr_filled_below}
use Rattle.slr_run.proofs.Expected.{columns_over}
use Rattle.slr_run.proofs.answering.expects.Goals as goal

pub loop-column-init : goal.loop-column-init
unfolding slr_filled_below
loop-column-init c g sized = none_is c.none-columns.ensures

pub loop-column-preserved : goal.loop-column-preserved
loop-column-preserved c g sized = c.with_column-columns.ensures.filled g sized (c.loop-column.invariant g sized)

pub returns-2 : goal.returns-2
returns-2 c =
    columns_over c.args.table.now c.args.state {j = c.loop-column.column + 1} (omega arith) (omega arith)
    (λ g sized. c.with_column-columns.ensures.filled g sized (c.loop-column.invariant g sized))
