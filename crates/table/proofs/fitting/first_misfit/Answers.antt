use native.Mathlib.Omega.{arith}
use borrow.Author.Count.{below_none, below_more}
use Rattle.sets.proofs.Promise.{decides_true, decides_false}
use Rattle.answers.proofs.Promise.{fails_some}
use Rattle.table.proofs.fitting.first_misfit.Goals as goal

pub loop-i-init : goal.loop-i-init
loop-i-init c = below_none _

pub cell_fits-requires : goal.cell_fits-requires
cell_fits-requires c = omega (arith, c.loop-i-test.true, c.requires)

pub returns-then-not-cell_fits : goal.returns-then-not-cell_fits
returns-then-not-cell_fits c =
    fails_some c.loop-i-test.true c.loop-i.invariant
    (decides_false _ c.cell_fits.result (c.cell_fits.ensures.decides _ _ c.gather_lefts-lefts.ensures) c.if-not-cell_fits.true)

pub loop-i-preserved : goal.loop-i-preserved
loop-i-preserved c =
    below_more _ _ c.loop-i.invariant
    (decides_true _ c.cell_fits.result (c.cell_fits.ensures.decides _ _ c.gather_lefts-lefts.ensures) c.if-not-cell_fits.false)

pub returns : goal.returns
returns c j below = c.loop-i.invariant j (omega (arith, c.loop-i-test.false))
