-- The invariant: the claims on the columns gone through are laid.
use mathlib.Core.Path.{◌≡◌}
use lib.ListN.{length}
use Rattle.sets.specs.Calls.{number}
use Rattle.table.proofs.Rows.{RowSoFar}
use Rattle.table.proofs.claims.claim_row.Given as goal

abbrev pub invariant-loop-column : goal.invariant-loop-column
invariant-loop-column l =
    (length l.table ≡ length l.initial.table) × RowSoFar l.row (number l.ahead) l.tokens l.p l.initial.table l.initial.contest l.column l.table l.contest
