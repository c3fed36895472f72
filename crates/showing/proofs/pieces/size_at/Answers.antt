-- `showing::pieces::size_at` meets its contract.
use native.Mathlib.Nat.{add-zero}
use native.Mathlib.Omega.{arith}
use Rattle.showing.specs.Pieces.{size_at}
use Rattle.showing.proofs.pieces.size_at.Goals as goal

pub returns : goal.returns
unfolding size_at
returns c =
    omega (arith, rw add-zero at c.byte_at.ensures, c.byte_at-2.ensures)
