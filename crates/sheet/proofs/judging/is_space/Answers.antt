-- The byte at the place.
use native.Mathlib.Nat.{add-zero}
use Rattle.sheet.specs.Judging.{is_space}
use Rattle.sheet.proofs.judging.is_space.Goals as goal

pub returns : goal.returns
unfolding is_space
returns c = rw (c.byte_at.ensures, add-zero)
