use native.Mathlib.Omega.{arith}
use Rattle.states.proofs.Turning.{search_begun, search_whole}
use Rattle.states.proofs.finding.find.Goals as goal

pub loop-state-init : goal.loop-state-init
loop-state-init c = (omega arith, search_begun c.args.tables.now c.begin.new.self c.begin.ensures)

pub returns : goal.returns
returns c = search_whole c.loop-state.invariant.1 (omega arith)
