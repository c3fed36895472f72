use Rattle.pieces.specs.Cut.{answer_of}
use Rattle.pieces.proofs.Moving.{end_cuts, stop_cuts}
use Rattle.pieces.proofs.Progress.{progress_none, progress_skip, progress_take, progress_ends}
use Rattle.pieces.proofs.cutting.cut_with.Goals as goal

pub loop-at-init : goal.loop-at-init
loop-at-init c = progress_none

pub loop-at-preserved-in-Ok-Skip : goal.loop-at-preserved-in-Ok-Skip
loop-at-preserved-in-Ok-Skip c =
    progress_skip c.loop-at.invariant (rw c.in-Ok-Skip.field-0-is at c.in-Ok-Skip.ensures)

pub loop-at-preserved : goal.loop-at-preserved
loop-at-preserved c =
    rw c.note.ensures (progress_take c.loop-at.invariant (rw c.in-Ok-Take.field-0-is at c.in-Ok-Take.ensures))

pub returns-in-Err : goal.returns-in-Err
returns-in-Err c = progress_ends c.loop-at.invariant (stop_cuts c.in-Err.ensures) c.refused.ensures

pub returns : goal.returns
unfolding answer_of
returns c = progress_ends c.loop-at.invariant (end_cuts c.args.line.now c.loop-at-test.false) (c.done.ensures)
