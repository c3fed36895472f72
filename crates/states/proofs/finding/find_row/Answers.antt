use native.Mathlib.Omega.{arith}
use Rattle.states.specs.Runs.{RunEnd}
use Rattle.states.proofs.Turning.{search_run}
use Rattle.states.proofs.finding.find_row.Goals as goal

pub loop-byte-preserved : goal.loop-byte-preserved
loop-byte-preserved c =
    let args = c.args in
    let turned = c.in_ok-turn.ensures in
    let met = c.loop-byte.invariant.1.more in
    let run : RunEnd args.tables.now.readers.now c.loop-byte.byte c.from-byte.result = rw c.from-byte.ensures (args.tables.now.runs.run c.loop-byte.byte (omega arith) c.loop-byte-test.true) in (
      run.within,
      record {
        more = omega (arith, turned.more, met);
        searched =
            search_run args.tables.now c.turn.new.states args.state c.loop-byte.byte c.from-byte.result
            (omega (arith, turned.more, met, c.requires.row)) run turned.searched;
      },
    )
