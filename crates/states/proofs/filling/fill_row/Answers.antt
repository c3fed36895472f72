use native.Mathlib.Omega.{arith}
use Rattle.states.specs.Runs.{RunEnd}
use Rattle.states.proofs.Laying.{filled_run}
use Rattle.states.proofs.filling.fill_row.Goals as goal

pub loop-byte-preserved : goal.loop-byte-preserved
loop-byte-preserved c =
    let args = c.args in
    let byte : RunEnd args.tables.now.readers.now c.loop-byte.byte c.from-end.result = rw c.from-end.ensures (args.tables.now.runs.run c.loop-byte.byte (omega arith) c.loop-byte-test.true) in
    let spread = c.spread.ensures in (
      byte.within,
      λ first filled.
          filled_run args.state c.loop-byte.byte c.from-end.result c.cell.result byte (c.loop-byte.invariant.1 first filled)
          c.cell.ensures spread,
    )
