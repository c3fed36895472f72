use mathlib.Core.Path.{◌∙◌, ap}
use native.Mathlib.Omega.{arith}
use lib.ListN.{length}
use Rattle.slr_run.proofs.Turning.{turning_start, finished_length}
use Rattle.slr_run.proofs.Loop.{loop_fits, loop_shifts, loop_reduce, loop_listed, loop_finish}
use Rattle.slr_run.proofs.reducing.reduce_all.Goals as goal

pub loop-p-init : goal.loop-p-init
loop-p-init c = turning_start _ _ _ _ _ _ c.requires.1 c.requires.2

pub decide-turn-requires : goal.decide-turn-requires
decide-turn-requires c = (c.loop-p.invariant.held, c.requires.0)

pub bounds-list-listed : goal.bounds-list-listed
bounds-list-listed c = omega (arith, (loop_fits c.args.machine.now _ _ _ _ c.loop-p.invariant c.counts-cells.ensures c.decide-turn.ensures c.in-Reduce.is).1)

pub overflow_add-stack : goal.overflow_add-stack
overflow_add-stack c = omega (arith, (loop_fits c.args.machine.now _ _ _ _ c.loop-p.invariant c.counts-cells.ensures c.decide-turn.ensures c.in-Reduce.is).0)

pub bounds-stack-base : goal.bounds-stack-base
bounds-stack-base c = omega (arith, (loop_fits c.args.machine.now _ _ _ _ c.loop-p.invariant c.counts-cells.ensures c.decide-turn.ensures c.in-Reduce.is).0)

pub reduced_to-here-requires : goal.reduced_to-here-requires
reduced_to-here-requires c =
    let fits = loop_fits c.args.machine.now _ _ _ _ c.loop-p.invariant c.counts-cells.ensures c.decide-turn.ensures c.in-Reduce.is in
    (omega (arith, fits.0), omega (arith, fits.1))

pub loop-p-smaller : goal.loop-p-smaller
loop-p-smaller c =
    let fits = loop_fits c.args.machine.now _ _ _ _ c.loop-p.invariant c.counts-cells.ensures c.decide-turn.ensures c.in-Reduce.is in
    omega (arith, fits.1, loop_listed c.args.machine.now _ _ _ _ c.loop-p.invariant c.counts-cells.ensures c.decide-turn.ensures c.in-Reduce.is c.reduced_to-here.ensures, c.loop-p.invariant.kept.list_length)

pub loop-p-preserved : goal.loop-p-preserved
loop-p-preserved c = loop_reduce c.args.machine.now _ _ _ _ c.loop-p.invariant c.counts-cells.ensures c.decide-turn.ensures c.in-Reduce.is c.reduced_to-here.ensures

pub finish-requires : goal.finish-requires
finish-requires c = (loop_shifts c.args.machine.now _ _ _ _ c.loop-p.invariant c.counts-cells.ensures c.decide-turn.ensures c.in-Finish.is, omega (arith, c.loop-p.invariant.matched, c.requires.3))

pub shape_of-stack-in-Finish : goal.shape_of-stack-in-Finish
shape_of-stack-in-Finish c = ap length c.finish.ensures.1 ∙ finished_length c.in-Finish.ending _ _ ∙ c.loop-p.invariant.kept.stack_length

pub shape_of-list-in-Finish : goal.shape_of-list-in-Finish
shape_of-list-in-Finish c = c.loop-p.invariant.kept.list_length

pub returns-in-Finish : goal.returns-in-Finish
returns-in-Finish c = loop_finish c.args.machine.now _ _ _ _ c.loop-p.invariant c.counts-cells.ensures c.decide-turn.ensures c.in-Finish.is c.finish.ensures.0 c.finish.ensures.1
