-- The cells of the table are the first of those at hand.
use native.Mathlib.Omega.{arith}
use Rattle.table.proofs.Answering.{given_most, enter_ready, enter_tabulated}
use Rattle.table.proofs.claims.enter.Goals as goal

pub tabulate-requires : goal.tabulate-requires
tabulate-requires c =
    let known = enter_ready c.requires in
    let ready = rw (← c.cells-cells.ensures) at known in
    record { room = (c.if-cells-le-FEW.true, omega arith, ready.0); rows = ready.1 }

pub tabulate-requires-else-cells-le-FEW : goal.tabulate-requires-else-cells-le-FEW
tabulate-requires-else-cells-le-FEW c =
    let known = enter_ready c.requires in
    let most = given_most c.requires.given in
    let ready = rw (← c.cells-cells.ensures) at known in
    record { room = (rw (← c.cells-cells.ensures) at most, omega arith, ready.0); rows = ready.1 }

pub returns-then-cells-le-FEW : goal.returns-then-cells-le-FEW
returns-then-cells-le-FEW c = enter_tabulated c.requires (rw c.cells-cells.ensures at c.tabulate.ensures)

pub returns-else-cells-le-FEW : goal.returns-else-cells-le-FEW
returns-else-cells-le-FEW c = enter_tabulated c.requires (rw c.cells-cells.ensures at c.tabulate-else-cells-le-FEW.ensures)
