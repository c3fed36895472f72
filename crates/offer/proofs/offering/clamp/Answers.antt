-- Each count is lowered to its bound.
use Rattle.offer.specs.Resuming.{clamped}
use Rattle.offer.proofs.offering.clamp.Goals as goal

pub returns : goal.returns
unfolding clamped
returns c = rw (c.min-2.ensures, c.min.ensures, c.counts-2.ensures, c.min-height.ensures, c.counts.ensures)
