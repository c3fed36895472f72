-- The trail of the right side starts as the FOLLOW set that was loaded.
use Prim.Native.Nat.{◌+◌}
use native.Mathlib.Omega.{arith}
use Rattle.first.proofs.Promise.{right_part}
use Rattle.follow.proofs.ahead.lookahead_at.Goals as goal

pub overflow_cast-book : goal.overflow_cast-book
overflow_cast-book c = record { fits = omega (arith, (c.type_inv.book (c.args.place + 2)).fits) }

pub returns : goal.returns
returns c =
    rw (c.load-behind.ensures.loaded, right_part _ _ c.requires) at c.trail_of.ensures
