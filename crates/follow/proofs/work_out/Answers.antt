-- Every cell is cleared first; then both families are found, and the lookahead of each record.
use mathlib.Core.Path.{refl}
use Rattle.first.proofs.Promise.{given_readable, given_count}
use Rattle.follow.proofs.Served.{found_worked_out}
use Rattle.follow.proofs.work_out.Goals as goal

pub fill_ahead-requires : goal.fill_ahead-requires
fill_ahead-requires c =
    let found = rw c.in-Ok.is at c.find_sets-found.ensures in
    (given_readable found.given, given_count found.given, refl)

pub returns-in-Ok : goal.returns-in-Ok
returns-in-Ok c = rw c.in-Ok.is (found_worked_out (rw c.in-Ok.is at c.find_sets-found.ensures) c.fill_ahead.ensures)

pub returns-in_default : goal.returns-in_default
returns-in_default c =
    let refused = rw c.in_default.is at c.find_sets-found.ensures in
    rw c.in_default.is (refused.0, refused.1, refused.2, refl)
