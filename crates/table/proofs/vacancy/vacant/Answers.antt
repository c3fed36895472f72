-- The array is one byte, repeated.
use Rattle.table.proofs.Vacant.{all_vacant}
use Rattle.table.proofs.vacancy.vacant.Goals as goal

pub returns : goal.returns
returns g c = all_vacant _
