-- `showing::lines::set_lines` meets its contract: the lines that are left, written from here on, make the whole.
use lib.ListN.{drop}
use Rattle.text.proofs.Promise.{Completes}
use Rattle.showing.specs.Lines.{set_lines}
use Rattle.showing.proofs.lines.set_lines.Given as goal

abbrev pub invariant-loop-n : goal.invariant-loop-n
invariant-loop-n l =
    Completes l.initial.out l.at (set_lines l.name 0 l.family) l.out l.place (set_lines l.name l.n (drop l.n l.family))
