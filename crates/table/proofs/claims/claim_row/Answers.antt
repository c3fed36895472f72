use mathlib.Core.Path.{◌≡◌, refl}
use Prim.Native.Nat.{ℕ, ◌+◌, ◌*◌, ◌<◌}
use native.Mathlib.Omega.{arith}
use lib.Arith.{digits_lt}
use lib.ListN.{length}
use borrow.Author.Tests.{lt-ltb, le-ltb}
use borrow.Author.Rules.{rules}
use Rattle.table.proofs.Answering.{cells_fit}
use Rattle.table.proofs.Rows.{row_begun, row_next, row_over}
use Rattle.table.proofs.claims.claim_row.Goals as goal
use Rattle.table.proofs.claims.claim_row.Goals.{At-loop-column}

pub overflow_mul-from : goal.overflow_mul-from
overflow_mul-from c = record { fits = cells_fit _ _ (search rules) (search rules) }

pub loop-column-init : goal.loop-column-init
loop-column-init c = (refl, row_begun)

-- every cell of the row lies in the table
in_row : (c : At-loop-column) (column : ℕ) → column < c.args.tokens + 1 → c.args.row * (c.args.tokens + 1) + column < length c.loop-column.table
in_row c column h =
    let inside = digits_lt {q = c.args.row} {m = c.args.row + 1} (omega arith) h in
    omega (arith, inside, c.requires.0, c.loop-column.invariant.0)

pub overflow_add-from-in-loop-column : goal.overflow_add-from-in-loop-column
overflow_add-from-in-loop-column c = omega (arith, in_row (goal.at.overflow_add-from-in-loop-column c).At-loop-column c.loop-column.column (omega arith))

pub claim-contest-requires : goal.claim-contest-requires
claim-contest-requires c = in_row (goal.at.claim-contest-requires c).At-loop-column _ (omega (arith, c.loop-column-test.true))

pub loop-column-preserved : goal.loop-column-preserved
loop-column-preserved c = (
  omega (arith, c.claim-contest.auto.table, c.loop-column.invariant.0),
  row_next c.loop-column.invariant.1 (omega (arith, c.loop-column-test.true)) (in_row (goal.at.loop-column-preserved c).At-loop-column _ (omega (arith, c.loop-column-test.true))) c.requires.1 c.claim-contest.ensures (rw (lt-ltb _ _ c.loop-column-test.true)),
)

pub overflow_add-from-2 : goal.overflow_add-from-2
overflow_add-from-2 c = omega (arith, in_row (goal.at.overflow_add-from-2 c).At-loop-column c.args.tokens (omega arith))

pub claim-requires : goal.claim-requires
claim-requires c = in_row (goal.at.claim-requires c).At-loop-column _ (omega arith)

pub returns : goal.returns
returns c =
    let all : c.loop-column.column ≡ c.args.tokens = omega (arith, c.loop-column.auto.column-end, c.loop-column-test.false) in
    row_over (row_next (rw all at c.loop-column.invariant.1) (omega arith) (in_row (goal.at.returns c).At-loop-column _ (omega arith)) c.requires.1 c.claim.ensures (rw (le-ltb c.args.tokens c.args.tokens (omega arith)))) (omega arith)
