-- One case of `Turns` for each answer.
use native.Mathlib.Omega.{arith}
use Rattle.slr_run.proofs.Told.{few_rows, left_inside, reduction_bare, reduction_none, to_row, reduction_list_full, reduction_stack_full, reduction_made}
use Rattle.slr_run.proofs.deciding.reduction.Goals as goal

pub returns-then-at-size : goal.returns-then-at-size
returns-then-at-size c =
    reduction_bare c.args.machine.now c.requires.0 c.requires.1 _ _ c.if-at-size.true

pub bounds-stack-base : goal.bounds-stack-base
bounds-stack-base c = omega (arith, c.requires.0.height, c.if-at-size.false)

pub number-to-requires : goal.number-to-requires
number-to-requires c =
    (c.requires.0.states _ (omega (arith, c.if-at-size.false)), omega (arith, left_inside c.args.machine.now c.requires.1))

pub returns-then-to : goal.returns-then-to
returns-then-to c =
    reduction_none c.args.machine.now c.requires.0 c.requires.1 c.if-at-size.false c.number-to.ensures _ _ c.if-to.true

pub returns-then-cells-at : goal.returns-then-cells-at
returns-then-cells-at c =
    reduction_list_full c.args.machine.now c.requires.0 c.requires.1 c.if-at-size.false c.number-to.ensures c.if-to.false _ _ c.if-cells-at.true

pub returns-then-counts-base : goal.returns-then-counts-base
returns-then-counts-base c =
    reduction_stack_full c.args.machine.now c.requires.0 c.requires.1 c.if-at-size.false c.number-to.ensures c.if-to.false _ _ c.if-cells-at.false (omega (arith, c.if-counts-base.true, c.counts.ensures))

pub overflow_cast-result : goal.overflow_cast-result
overflow_cast-result c =
    omega (arith, few_rows c.args.machine.now, to_row c.args.machine.now c.requires.0 c.requires.1 c.if-at-size.false c.number-to.ensures c.if-to.false)

pub returns : goal.returns
returns c =
    reduction_made c.args.machine.now c.requires.0 c.requires.1 c.if-at-size.false c.number-to.ensures c.if-to.false _ _ c.if-cells-at.false (omega (arith, c.if-counts-base.false, c.counts.ensures))
