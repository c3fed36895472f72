-- The two claimants sought are the two lowest.
use Prim.Native.Nat.{◌+◌}
use native.Mathlib.Nat.{mod-lt}
use native.Mathlib.Omega.{arith}
use Rattle.sets.specs.Calls.{set_at}
use Rattle.table.specs.Claims.{left_of}
use Rattle.checker.proofs.Rivalry.{conflict_told}
use Rattle.checker.proofs.contests.conflict_at.Goals as goal

pub overflow_cast-cell : goal.overflow_cast-cell
overflow_cast-cell c =
    omega (arith, mod-lt c.args.cell {m = c.args.index.now.outline.tokens + 1} (omega arith))

pub returns : goal.returns
returns c =
    conflict_told (left_of c.args.book.now c.args.index.now.places) (set_at c.args.ahead.now) c.args.index.now.outline.tokens c.args.cell
    c.column_bit-bit.ensures (rw c.unwrap-lowest.ensures at c.claimant.ensures) (rw c.unwrap-next.ensures at c.claimant-2.ensures) c.refusal.ensures
