-- The invariant: what is gathered so far.
use Prim.Native.Nat.{ℕ, ◌+◌, ◌≤◌}
use lib.ListN.{get_or}
use Rattle.book.specs.Columns.{Gathered}
use Rattle.book.proofs.columns.gather.Given as goal

abbrev pub invariant-loop-p : goal.invariant-loop-p
invariant-loop-p l =
    (l.p ≤ l.p-end) × Gathered (λ (at : ℕ). get_or l.book (at + l.more) 0) l.places l.p l.column
