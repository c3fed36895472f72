-- The two checks of room, one after the other.
use Rattle.std.proofs.lemmas.Result.{err_from_is_err_and}
use Rattle.answers.specs.Checks.{first_stops}
use Rattle.follow.proofs.Served.{both_tested}
use Rattle.follow.proofs.checks.sets_room.Goals as goal

pub returns-in_err-check_room : goal.returns-in_err-check_room
returns-in_err-check_room c =
    let p = err_from_is_err_and c.from_residual.result c.from_residual.ensures.1 in
    rw (p.1, p.2) (first_stops c.in_err-check_room.ensures)

pub returns : goal.returns
returns c = both_tested _ _ _ c.check_room-2.result c.in_ok-check_room.ensures c.check_room-2.ensures
