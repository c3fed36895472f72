-- The symbols that are left, written from here on, make the whole.
use Prim.Native.Nat.{◌+◌}
use Rattle.reader.specs.Fields.{form_in}
use Rattle.sheet.specs.Sheet.{symbols_text}
use Rattle.text.proofs.Promise.{Completes}
use Rattle.sheet.proofs.BookText.{symbols_from}
use Rattle.sheet.proofs.writing.put_right.Given as goal

abbrev pub invariant-loop-i : goal.invariant-loop-i
invariant-loop-i l =
    Completes l.initial.out l.at (symbols_text (form_in l.book (l.place + 4) l.count)) l.out l.next (symbols_from l.book l.place l.count l.i)
