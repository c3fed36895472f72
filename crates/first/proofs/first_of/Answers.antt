-- The symbols decide between a refusal and the trail of the form that they spell.
use mathlib.Core.Path.{sym}
use Rattle.std.proofs.lemmas.Result.{err_from_is_err_and}
use Rattle.first.specs.Calls.{refused}
use Rattle.first.proofs.Trail.{single_empty}
use Rattle.first.proofs.Served.{first_refused, first_served}
use Rattle.first.proofs.first_of.Goals as goal

pub returns-in-Err : goal.returns-in-Err
returns-in-Err c =
    let judged = rw c.in-Err.is at c.find_first.ensures in
    refused judged.0

pub returns-in_err-spelled-in-Ok : goal.returns-in_err-spelled-in-Ok
returns-in_err-spelled-in-Ok c =
    let found = rw c.in-Ok.is at c.find_first.ensures in
    let p = err_from_is_err_and c.from_residual.result c.from_residual.ensures.1 in
    rw (p.1, p.2) (first_refused found.given c.in_err-spelled-in-Ok.ensures)

pub slice_bounds-trail_of-end : goal.slice_bounds-trail_of-end
slice_bounds-trail_of-end c =
    let found = rw c.in-Ok.is at c.find_first.ensures in
    sym found.family.sized

pub returns-in_ok-spelled-in-Ok : goal.returns-in_ok-spelled-in-Ok
returns-in_ok-spelled-in-Ok c =
    let found = rw c.in-Ok.is at c.find_first.ensures in
    first_served found c.in_ok-spelled-in-Ok.ensures (rw (single_empty c.single.ensures) at c.trail_of.ensures)
