-- The cell's row, the bit of its column and its byte are those of the definition.
use Prim.Native.Nat.{◌+◌}
use native.Mathlib.Nat.{mod-lt}
use native.Mathlib.Omega.{arith}
use Rattle.checker.proofs.Compared.{differs_at}
use Rattle.checker.proofs.differences.cell_differs.Goals as goal

pub overflow_cast-i : goal.overflow_cast-i
overflow_cast-i c =
    omega (arith, mod-lt c.args.i {m = c.args.tokens + 1} (omega arith))

pub returns : goal.returns
returns c =
    differs_at c.args.claimed.now c.args.ahead.now c.args.tokens c.args.table.now c.args.i c.differs.result
    c.load.ensures.loaded c.column_bit-bit.ensures c.cell_at.ensures
    c.differs.ensures
