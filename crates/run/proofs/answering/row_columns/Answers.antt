use Rattle.sets.proofs.Promise.{none_is}
use Rattle.offer.specs.Stops.{filled_below}
use Rattle.run.proofs.answering.row_columns.Goals as goal

pub loop-j-init : goal.loop-j-init
unfolding filled_below
loop-j-init c = λ g sized. none_is c.none-columns.ensures
