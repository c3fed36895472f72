-- Each check, and then the table before the sets.
use native.Mathlib.Omega.{arith}
use Rattle.std.proofs.lemmas.Result.{MatchResult-at_ok, MatchResult-at_err, err_from_is_err_and}
use Rattle.first.proofs.Promise.{given_nonterminals, given_part}
use Rattle.table.specs.Calls.{refused}
use Rattle.table.proofs.Answering.{build_no_sets, build_no_table, build_enterable, build_entered}
use Rattle.table.proofs.write_all.Goals as goal

pub returns-in-Err : goal.returns-in-Err
returns-in-Err c = refused (MatchResult-at_err _ _ _ c.in-Err.is c.work_out-found.ensures).0

pub returns-in_err-sets_room : goal.returns-in_err-sets_room
returns-in_err-sets_room c =
    let served = MatchResult-at_ok _ _ _ c.in-Ok.is c.work_out-found.ensures in
    let p = err_from_is_err_and c.from_residual.result c.from_residual.ensures.1 in
    rw (p.1, p.2) (build_no_sets served _ _ _ c.in_err-sets_room.ensures)

pub returns-in_err-check_room : goal.returns-in_err-check_room
returns-in_err-check_room c =
    let served = MatchResult-at_ok _ _ _ c.in-Ok.is c.work_out-found.ensures in
    let p = err_from_is_err_and c.from_residual-in_err-check_room.result c.from_residual-in_err-check_room.ensures.1 in
    rw (p.1, p.2) (build_no_table served _ _ _ c.in_ok-sets_room.ensures (rw c.cells.ensures at c.in_err-check_room.ensures))

pub enter-requires : goal.enter-requires
enter-requires c =
    let served = MatchResult-at_ok _ _ _ c.in-Ok.is c.work_out-found.ensures in
    build_enterable served c.args.first.now c.args.follow.now c.args.table.now c.in_ok-sets_room.ensures
    (rw c.cells.ensures at c.in_ok-check_room.ensures)

pub returns-in_err-enter : goal.returns-in_err-enter
returns-in_err-enter c =
    let served = MatchResult-at_ok _ _ _ c.in-Ok.is c.work_out-found.ensures in
    let p = err_from_is_err_and c.from_residual-in_err-enter.result c.from_residual-in_err-enter.ensures.1 in
    rw (p.1, p.2)
    (build_entered served _ _ _ c.in_ok-sets_room.ensures (rw c.cells.ensures at c.in_ok-check_room.ensures)
    (c.in_err-enter.ensures _ served.given.serves))

pub slice_bounds-begins-end : goal.slice_bounds-begins-end
slice_bounds-begins-end c =
    let served = MatchResult-at_ok _ _ _ c.in-Ok.is c.work_out-found.ensures in
    omega (arith, given_nonterminals served.given, served.firsts.sized)

pub slice_bounds-write_front-end : goal.slice_bounds-write_front-end
slice_bounds-write_front-end c =
    let served = MatchResult-at_ok _ _ _ c.in-Ok.is c.work_out-found.ensures in
    given_part served.given _ served.firsts.sized

pub slice_bounds-ends-end : goal.slice_bounds-ends-end
slice_bounds-ends-end c =
    let served = MatchResult-at_ok _ _ _ c.in-Ok.is c.work_out-found.ensures in
    omega (arith, given_nonterminals served.given, served.follows.sized)

pub slice_bounds-write_front-end-2 : goal.slice_bounds-write_front-end-2
slice_bounds-write_front-end-2 c =
    let served = MatchResult-at_ok _ _ _ c.in-Ok.is c.work_out-found.ensures in
    given_part served.given _ served.follows.sized

pub returns : goal.returns
returns c =
    let served = MatchResult-at_ok _ _ _ c.in-Ok.is c.work_out-found.ensures in
    build_entered served _ _ _ c.in_ok-sets_room.ensures (rw c.cells.ensures at c.in_ok-check_room.ensures)
    (c.in_ok-enter.ensures _ served.given.serves) _ _ c.write_front.ensures c.write_front-2.ensures
