-- Two bytes behind the left side.
use Rattle.sheet.specs.Judging.{right_place}
use Rattle.sheet.proofs.judging.right_place.Goals as goal

pub returns : goal.returns
unfolding right_place
returns c = rw (c.past-2.ensures, c.past.ensures, c.left_number.ensures)
