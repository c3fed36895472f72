use native.Mathlib.Omega.{arith}
use Rattle.expand.proofs.Unrolling.{unrolled_start, unrolled_stack, unrolled_output, unrolled_height, write_fits, unrolled_write, apply_fits, unrolled_apply, unrolled_close, unfolds_from}
use Rattle.expand.proofs.unfold_all.Goals as goal

pub loop-t-init : goal.loop-t-init
loop-t-init c =
    unrolled_start _ _ _ _ _ _ _ c.args.stack.now (record { lefts_are = c.requires.1; cells_are = c.counts-cells.ensures }) c.requires.0 c.put_start.ensures

pub turn_at-turn-requires : goal.turn_at-turn-requires
turn_at-turn-requires c =
    omega (arith, unrolled_height _ _ _ _ _ _ _ c.loop-t.invariant, unrolled_stack _ _ _ _ _ _ _ c.loop-t.invariant)

pub overflow_sub-height : goal.overflow_sub-height
overflow_sub-height c =
    (write_fits _ _ _ _ _ _ _ c.loop-t.invariant c.turn_at-turn.ensures c.in-Write.is).some_symbol

pub bounds-stack-height : goal.bounds-stack-height
bounds-stack-height c =
    let fits = write_fits _ _ _ _ _ _ _ c.loop-t.invariant c.turn_at-turn.ensures c.in-Write.is in
    omega (arith, fits.some_symbol, unrolled_height _ _ _ _ _ _ _ c.loop-t.invariant, unrolled_stack _ _ _ _ _ _ _ c.loop-t.invariant)

pub bounds-output-written : goal.bounds-output-written
bounds-output-written c =
    let fits = write_fits _ _ _ _ _ _ _ c.loop-t.invariant c.turn_at-turn.ensures c.in-Write.is in
    omega (arith, fits.output_left, unrolled_output _ _ _ _ _ _ _ c.loop-t.invariant)

pub overflow_add-written : goal.overflow_add-written
overflow_add-written c =
    omega (arith, (write_fits _ _ _ _ _ _ _ c.loop-t.invariant c.turn_at-turn.ensures c.in-Write.is).output_left)

pub loop-t-smaller-in-Write : goal.loop-t-smaller-in-Write
loop-t-smaller-in-Write c =
    omega (arith, (write_fits _ _ _ _ _ _ _ c.loop-t.invariant c.turn_at-turn.ensures c.in-Write.is).output_left)

pub loop-t-preserved-in-Write : goal.loop-t-preserved-in-Write
loop-t-preserved-in-Write c =
    unrolled_write _ _ _ _ _ _ _ c.loop-t.invariant c.turn_at-turn.ensures c.in-Write.is

pub overflow_sub-below : goal.overflow_sub-below
overflow_sub-below c =
    (apply_fits _ _ _ _ _ _ _ c.loop-t.invariant c.turn_at-turn.ensures c.in-Apply.is c.length-count.ensures).some_symbol

pub overflow_add-height : goal.overflow_add-height
overflow_add-height c =
    omega (arith, (apply_fits _ _ _ _ _ _ _ c.loop-t.invariant c.turn_at-turn.ensures c.in-Apply.is c.length-count.ensures).stack_left)

pub overflow_add-used : goal.overflow_add-used
overflow_add-used c =
    omega (arith, c.well_formed, (apply_fits _ _ _ _ _ _ _ c.loop-t.invariant c.turn_at-turn.ensures c.in-Apply.is c.length-count.ensures).list_left)

pub loop-t-smaller : goal.loop-t-smaller
loop-t-smaller c =
    omega (arith, (apply_fits _ _ _ _ _ _ _ c.loop-t.invariant c.turn_at-turn.ensures c.in-Apply.is c.length-count.ensures).list_left)

pub loop-t-preserved : goal.loop-t-preserved
loop-t-preserved c =
    unrolled_apply _ _ _ _ _ _ _ c.loop-t.invariant c.turn_at-turn.ensures c.in-Apply.is c.length-count.ensures c.apply.ensures c.max-deepest.ensures

pub shape_of-stack-in-Close : goal.shape_of-stack-in-Close
shape_of-stack-in-Close c =
    (unfolds_from c.args.stack.now _ c.put_start.ensures (unrolled_close _ _ _ _ _ _ _ c.loop-t.invariant c.turn_at-turn.ensures c.in-Close.is)).stack_length

pub shape_of-output-in-Close : goal.shape_of-output-in-Close
shape_of-output-in-Close c =
    (unfolds_from c.args.stack.now _ c.put_start.ensures (unrolled_close _ _ _ _ _ _ _ c.loop-t.invariant c.turn_at-turn.ensures c.in-Close.is)).output_length

pub returns-in-Close : goal.returns-in-Close
returns-in-Close c =
    unfolds_from c.args.stack.now _ c.put_start.ensures (unrolled_close _ _ _ _ _ _ _ c.loop-t.invariant c.turn_at-turn.ensures c.in-Close.is)
