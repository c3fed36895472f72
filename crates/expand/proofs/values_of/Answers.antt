-- One case of `closing` for each way to end.
use mathlib.Core.Path.{refl, ◌∙◌, ap}
use Rattle.std.specs.Prelude.{Err}
use Rattle.expand.specs.Expanding.{closing}
use Rattle.expand.proofs.ExpandAnswers.{closing_done, closing_stop}
use Rattle.expand.proofs.values_of.Goals as goal

pub returns-in-Ok : goal.returns-in-Ok
returns-in-Ok c = closing_done _ _ c.done.ensures c.in-Ok.is

pub returns-in-Unfit : goal.returns-in-Unfit
unfolding closing
returns-in-Unfit c = closing_stop 12 _ 0 _ c.stop.ensures c.none.ensures (c.in-Err.is ∙ ap Err c.in-Unfit.is) refl

pub returns-in-FullStack : goal.returns-in-FullStack
unfolding closing
returns-in-FullStack c = closing_stop 7 _ 1 _ (rw c.detail.ensures at c.stop-in-FullStack.ensures) c.none-in-FullStack.ensures (c.in-Err.is ∙ ap Err c.in-FullStack.is) refl

pub returns-in-FullOutput : goal.returns-in-FullOutput
unfolding closing
returns-in-FullOutput c = closing_stop 7 _ 3 _ (rw c.detail-in-FullOutput.ensures at c.stop-in-FullOutput.ensures) c.none-in-FullOutput.ensures (c.in-Err.is ∙ ap Err c.in-FullOutput.is) refl
