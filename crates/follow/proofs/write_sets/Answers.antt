-- With room for both, the first N cells of each family are written.
use native.Mathlib.Omega.{arith}
use Rattle.std.proofs.lemmas.Result.{err_from_is_err_and}
use Rattle.first.proofs.Promise.{given_nonterminals, given_part}
use Rattle.follow.specs.Calls.{refused}
use Rattle.follow.proofs.Served.{sets_no_room, sets_served}
use Rattle.follow.proofs.write_sets.Goals as goal

pub returns-in-Err : goal.returns-in-Err
returns-in-Err c =
    let judged = rw c.in-Err.is at c.find_sets.ensures in
    refused judged.0

pub returns-in_err-sets_room-in-Ok : goal.returns-in_err-sets_room-in-Ok
returns-in_err-sets_room-in-Ok c =
    let found = rw c.in-Ok.is at c.find_sets.ensures in
    let p = err_from_is_err_and c.from_residual.result c.from_residual.ensures.1 in
    rw (p.1, p.2) (sets_no_room found _ _ c.in_err-sets_room-in-Ok.ensures)

pub slice_bounds-begins-end : goal.slice_bounds-begins-end
slice_bounds-begins-end c =
    let found = rw c.in-Ok.is at c.find_sets.ensures in
    omega (arith, given_nonterminals found.given, found.first.sized)

pub slice_bounds-write_front-end : goal.slice_bounds-write_front-end
slice_bounds-write_front-end c =
    let found = rw c.in-Ok.is at c.find_sets.ensures in
    given_part found.given _ found.first.sized

pub slice_bounds-ends-end : goal.slice_bounds-ends-end
slice_bounds-ends-end c =
    let found = rw c.in-Ok.is at c.find_sets.ensures in
    omega (arith, given_nonterminals found.given, found.follow.sized)

pub slice_bounds-write_front-end-in-Ok : goal.slice_bounds-write_front-end-in-Ok
slice_bounds-write_front-end-in-Ok c =
    let found = rw c.in-Ok.is at c.find_sets.ensures in
    given_part found.given _ found.follow.sized

pub returns-in_ok-sets_room-in-Ok : goal.returns-in_ok-sets_room-in-Ok
returns-in_ok-sets_room-in-Ok c =
    let found = rw c.in-Ok.is at c.find_sets.ensures in
    sets_served found _ _ c.in_ok-sets_room-in-Ok.ensures c.write_front.ensures c.write_front-in-Ok.ensures
