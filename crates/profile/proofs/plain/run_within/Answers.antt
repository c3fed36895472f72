-- The cells of the table are the first of those at hand.
use native.Mathlib.Omega.{arith}
use Rattle.profile.proofs.Outcomes.{cells_ready}
use Rattle.profile.proofs.plain.run_within.Goals as goal

pub vacant-cells-requires : goal.vacant-cells-requires
vacant-cells-requires g c = omega (arith, c.requires.few)

pub whole_as_front-run_entered : goal.whole_as_front-run_entered
whole_as_front-run_entered g c = (rw c.cells-size.ensures c.requires.fits, omega (arith, c.requires.few))

pub run_entered-requires : goal.run_entered-requires
run_entered-requires g c =
    rw c.cells-size.ensures (cells_ready c.requires.plain c.requires.fits c.vacant-cells.ensures)
