-- `text::hexadecimal` meets its contract: the digits that are left, written from here on, make the whole.
use Rattle.text.specs.Text.{hex_digits, hexadecimal}
use Rattle.text.proofs.Writing.{Completes}
use Rattle.text.proofs.hexadecimal.Given as goal

abbrev pub invariant-loop-left : goal.invariant-loop-left
invariant-loop-left l =
    Completes l.initial.out l.at (hexadecimal l.n) l.out l.place (hex_digits l.left l.n)
