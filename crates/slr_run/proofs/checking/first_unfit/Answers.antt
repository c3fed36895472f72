use native.Mathlib.Omega.{arith}
use borrow.Author.Count.{below_more}
use borrow.Author.Rules.{rules}
use Rattle.sets.proofs.Promise.{decides_true, decides_false}
use Rattle.slr_run.proofs.Fitting.{read_fits}
use Rattle.slr_run.proofs.checking.first_unfit.Goals as goal

pub returns-then-not-number_fits : goal.returns-then-not-number_fits
returns-then-not-number_fits c =
    let reads = read_fits c.args.outline c.args.rows c.args.table.now c.args.base c.loop-column.column c.number_fits.result (search rules) c.number_fits.ensures in
    record {
      inside = c.loop-column-test.true;
      fails = decides_false _ c.number_fits.result reads c.if-not-number_fits.true;
      earlier = c.loop-column.invariant;
    }

pub loop-column-preserved : goal.loop-column-preserved
loop-column-preserved c =
    let reads = read_fits c.args.outline c.args.rows c.args.table.now c.args.base c.loop-column.column c.number_fits.result (search rules) c.number_fits.ensures in
    below_more _ _ c.loop-column.invariant (decides_true _ c.number_fits.result reads c.if-not-number_fits.false)

pub returns : goal.returns
returns c = λ i below. c.loop-column.invariant i (omega arith)
