-- Where the index alone is past the end, the byte is 0 by default.
use Prim.Native.Nat.{◌+◌}
use native.Mathlib.Nat.{add_assoc}
use native.Mathlib.Omega.{arith}
use lib.ListN.{get_or-eq_default}
use Rattle.reader.specs.Fields.{symbol_of_byte, symbol_at}
use Rattle.reader.proofs.fields.symbol_at.Goals as goal

pub returns-then-i-book : goal.returns-then-i-book
unfolding symbol_at
returns-then-i-book c = rw add_assoc (cc)

pub returns-else-i-book : goal.returns-else-i-book
unfolding symbol_at symbol_of_byte
returns-else-i-book c = rw (get_or-eq_default c.args.book.now 0 {n = c.args.at + 4 + c.args.i} (omega arith))
