use native.Mathlib.Omega.{arith}
use Rattle.slr_run.proofs.Rowwise.{row_inside, rowwise_found, rowwise_next, rowwise_over}
use Rattle.slr_run.proofs.checking.first_misfit.Goals as goal

pub overflow_mul-base : goal.overflow_mul-base
overflow_mul-base c =
    omega (arith, row_inside _ _ _ c.loop-row.row c.columns_of-columns.ensures c.requires c.loop-row-test.true)

pub first_unfit-requires : goal.first_unfit-requires
first_unfit-requires c =
    (c.requires.few, row_inside _ _ _ c.loop-row.row c.columns_of-columns.ensures c.requires c.loop-row-test.true)

pub overflow_add-result : goal.overflow_add-result
overflow_add-result c =
    omega (arith, c.in-Some.ensures.inside, row_inside _ _ _ c.loop-row.row c.columns_of-columns.ensures c.requires c.loop-row-test.true)

pub returns-in-Some : goal.returns-in-Some
returns-in-Some c =
    rowwise_found _ _ _ c.loop-row.row c.columns_of-columns.ensures c.requires c.loop-row-test.true c.loop-row.invariant
    c.in-Some.ensures

pub loop-row-preserved : goal.loop-row-preserved
loop-row-preserved c =
    rowwise_next c.args.outline c.args.rows c.args.table.now c.loop-row.row c.columns_of-columns.ensures c.loop-row.invariant c.in_default.ensures

pub returns : goal.returns
returns c = rowwise_over _ _ _ c.requires c.loop-row-test.false c.loop-row.invariant
