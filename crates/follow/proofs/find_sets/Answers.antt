-- FIRST is worked out with the judgement; FOLLOW only of a book that is not refused.
use Rattle.first.proofs.Promise.{given_count}
use Rattle.follow.proofs.Walking.{given_walkable}
use Rattle.follow.proofs.Served.{found_sets}
use Rattle.follow.proofs.find_sets.Goals as goal

pub follows-requires : goal.follows-requires
follows-requires c =
    let found = rw c.in-Ok.is at c.find_first-found.ensures in
    (given_walkable found.given, given_count found.given, c.requires)

pub returns-in-Ok : goal.returns-in-Ok
returns-in-Ok c = rw c.in-Ok.is (found_sets (rw c.in-Ok.is at c.find_first-found.ensures) c.follows.ensures)

pub returns-in_default : goal.returns-in_default
returns-in_default c =
    let refused = rw c.in_default.is at c.find_first-found.ensures in
    rw c.in_default.is (refused.0, refused.1, c.requires)
