-- The number decides between a refusal and the lookahead.
use mathlib.Core.Path.{refl, sym}
use Rattle.std.proofs.lemmas.Result.{err_from_is_err_and}
use Rattle.first.proofs.Promise.{given_readable, given_count}
use Rattle.follow.specs.Calls.{refused}
use Rattle.follow.proofs.Walking.{given_walkable}
use Rattle.follow.proofs.Served.{found_sets, lookahead_refused, lookahead_served}
use Rattle.follow.proofs.lookahead.Goals as goal

pub returns-in-Err : goal.returns-in-Err
returns-in-Err c =
    let judged = rw c.in-Err.is at c.find_first.ensures in
    refused judged.0

pub follows-requires : goal.follows-requires
follows-requires c =
    let found = rw c.in-Ok.is at c.find_first.ensures in
    (given_walkable found.given, given_count found.given, refl)

pub returns-in_err-numbered-in-Ok : goal.returns-in_err-numbered-in-Ok
returns-in_err-numbered-in-Ok c =
    let found = found_sets (rw c.in-Ok.is at c.find_first.ensures) c.follows.ensures in
    let p = err_from_is_err_and c.from_residual.result c.from_residual.ensures.1 in
    rw (p.1, p.2) (lookahead_refused found c.in_err-numbered-in-Ok.ensures)

pub slice_bounds-lookahead_at-end : goal.slice_bounds-lookahead_at-end
slice_bounds-lookahead_at-end c =
    let found = found_sets (rw c.in-Ok.is at c.find_first.ensures) c.follows.ensures in
    sym found.first.sized

pub slice_bounds-lookahead_at-end-in-Ok : goal.slice_bounds-lookahead_at-end-in-Ok
slice_bounds-lookahead_at-end-in-Ok c =
    let found = found_sets (rw c.in-Ok.is at c.find_first.ensures) c.follows.ensures in
    sym found.follow.sized

pub lookahead_at-requires : goal.lookahead_at-requires
lookahead_at-requires c =
    let found = found_sets (rw c.in-Ok.is at c.find_first.ensures) c.follows.ensures in
    rw c.cell_or-place.ensures ((given_readable found.given).each _ c.in_ok-numbered-in-Ok.ensures)

pub returns-in_ok-numbered-in-Ok : goal.returns-in_ok-numbered-in-Ok
returns-in_ok-numbered-in-Ok c =
    let found = found_sets (rw c.in-Ok.is at c.find_first.ensures) c.follows.ensures in
    lookahead_served found c.in_ok-numbered-in-Ok.ensures (rw c.cell_or-place.ensures at c.lookahead_at.ensures)
