use Rattle.text.proofs.Promise.{put_length}
use Rattle.showing.proofs.Rows.{rows_start, rows_more, rows_all}
use Rattle.showing.proofs.lines.row_lines.Goals as goal

pub loop-row-init : goal.loop-row-init
loop-row-init c = rows_start

pub loop-row-preserved : goal.loop-row-preserved
loop-row-preserved c =
    rows_more c.loop-row.invariant c.loop-row-test.true c.further-end.ensures c.row_line-place.ensures

pub returns : goal.returns
returns c = rows_all c.loop-row.invariant c.loop-row-test.false

pub shape_of-out : goal.shape_of-out
shape_of-out c = put_length (returns c)
