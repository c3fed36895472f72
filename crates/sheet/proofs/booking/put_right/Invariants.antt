-- The symbols that are left, put from here on, make the whole.
use Prim.Native.Nat.{◌-◌}
use Rattle.answers.specs.Limits.{most_symbols}
use Rattle.sheet.proofs.Putting.{Listing}
use Rattle.sheet.proofs.booking.put_right.Given as goal

abbrev pub invariant-loop : goal.invariant-loop
invariant-loop l = Listing l.sheet l.initial.out l.at (most_symbols - l.counter) l.place l.out l.next
