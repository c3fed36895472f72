-- The number behind the letter.
use Rattle.sheet.specs.Judging.{left_number}
use Rattle.sheet.proofs.judging.left_number.Goals as goal

pub returns : goal.returns
unfolding left_number
returns c = rw (c.read_number.ensures, c.past.ensures)
