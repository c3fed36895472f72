-- `states::make` meets its contract.
use Rattle.std.proofs.lemmas.Result.{err_from_is_err_and}
use Rattle.states.specs.Making.{too_many}
use Rattle.states.proofs.Whole.{make_no_room, make_whole}
use Rattle.states.proofs.make.Goals as goal

pub returns-in_err-find : goal.returns-in_err-find
returns-in_err-find c =
    let p = err_from_is_err_and c.from_residual.result c.from_residual.ensures.1 in
    let given = c.new-tables.ensures in
    rw (p.1, p.2, ← given.readers, ← given.follow) (too_many c.in_err-find.ensures)

pub returns-in_err-check_room : goal.returns-in_err-check_room
returns-in_err-check_room c =
    let p = err_from_is_err_and c.from_residual-in_err-check_room.result c.from_residual-in_err-check_room.ensures.1 in
    let given = c.new-tables.ensures in
    rw (p.1, p.2, ← given.readers, ← given.follow) (make_no_room c.in_ok-find.ensures c.args.machine.now c.in_err-check_room.ensures)

pub returns : goal.returns
returns c =
    let given = c.new-tables.ensures in
    rw (← given.readers, ← given.follow) (make_whole c.in_ok-find.ensures c.args.machine.now c.in_ok-check_room.ensures c.fill.ensures)
