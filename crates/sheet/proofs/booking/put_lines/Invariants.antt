-- The records that are left, put from here on, make the whole.
use Prim.Native.Nat.{◌-◌}
use Rattle.sheet.specs.Booking.{records_in}
use Rattle.text.proofs.Promise.{Completes}
use Rattle.sheet.proofs.booking.put_lines.Given as goal

abbrev pub invariant-loop : goal.invariant-loop
invariant-loop l =
    Completes l.initial.out l.at (records_in l.sheet l.count l.place) l.out l.next (records_in l.sheet (l.count - l.counter) l.from)
