-- The lines that are left, written from here on, make the whole.
use Prim.Native.Nat.{◌-◌, ◌≤◌, ◌+◌, ◌*◌}
use Rattle.sheet.specs.Writing.{records_text}
use Rattle.text.proofs.Promise.{Completes}
use Rattle.sheet.proofs.writing.put_lines.Given as goal

abbrev pub invariant-loop : goal.invariant-loop
invariant-loop l =
    (l.place ≤ 6 + 259 * l.counter) × Completes l.initial.out l.at (records_text l.book l.count 6) l.out l.next (records_text l.book (l.count - l.counter) l.place)
