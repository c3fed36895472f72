-- `text::put_all` meets its contract: what is left of the text, written from here on, makes the whole.
use lib.ListN.{drop}
use Rattle.text.proofs.Writing.{Completes}
use Rattle.text.proofs.put_all.Given as goal

abbrev pub invariant-loop-byte : goal.invariant-loop-byte
invariant-loop-byte l = Completes l.initial.out l.at l.text l.out l.place (drop l.byte-index l.text)
