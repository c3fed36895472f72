-- `parts::joins::only` meets its contract.
use Rattle.parts.proofs.PositionSets.{only_one}
use Rattle.parts.proofs.joins.only.Goals as goal

pub returns : goal.returns
returns c = only_one c.put.ensures
