-- Every cell is cleared first; then FIRST is found.
use mathlib.Core.Path.{refl}
use Rattle.first.proofs.Judged.{given_readable}
use Rattle.first.proofs.Served.{found_first}
use Rattle.first.proofs.find_first.Goals as goal

pub firsts-requires : goal.firsts-requires
firsts-requires c = (given_readable (rw c.in-Ok.is at c.judge-judged.ensures), refl)

pub returns-in-Ok : goal.returns-in-Ok
returns-in-Ok c = rw c.in-Ok.is (found_first (rw c.in-Ok.is at c.judge-judged.ensures) c.firsts.ensures)

pub returns-in_default : goal.returns-in_default
returns-in_default c = rw c.in_default.is (rw c.in_default.is at c.judge-judged.ensures, refl)
