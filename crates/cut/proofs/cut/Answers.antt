-- `cut` meets its contract: the machine's own rows cut the line as the patterns do.
use mathlib.Core.Path.{sym}
use native.Mathlib.Omega.{arith}
use lib.Seq.{length-take-le}
use Rattle.cut.proofs.Exact.{bytes_of}
use Rattle.cut.proofs.Preparing.{prepared_few, prepared_fits, prepared_stops, prepared_cuts}
use Rattle.cut.proofs.cut.Goals as goal

pub overflow_mul-cells : goal.overflow_mul-cells
overflow_mul-cells c = omega (arith, prepared_few c.in-Ok.ensures)

pub slice_bounds-cut_with-end : goal.slice_bounds-cut_with-end
slice_bounds-cut_with-end c = prepared_fits c.in-Ok.ensures

pub slice_bounds-cut_with-end-2 : goal.slice_bounds-cut_with-end-2
slice_bounds-cut_with-end-2 c = sym (length-take-le _ _ (prepared_fits c.in-Ok.ensures))

pub returns-in-Err : goal.returns-in-Err
returns-in-Err c = prepared_stops c.in-Err.ensures

pub returns : goal.returns
returns c = prepared_cuts (bytes_of _ (λ i. (c.type_inv.line i).fits)) c.in-Ok.ensures c.cut_with.ensures
