-- Two bytes behind the place.
use Rattle.sheet.specs.Judging.{symbol_number}
use Rattle.sheet.proofs.judging.symbol_number.Goals as goal

pub returns : goal.returns
unfolding symbol_number
returns c = rw (c.read_number.ensures, c.past-2.ensures, c.past.ensures)
