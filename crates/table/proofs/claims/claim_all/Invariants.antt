-- The invariant: the claims of the productions gone through are laid.
use mathlib.Core.Path.{◌≡◌}
use lib.ListN.{length}
use Rattle.table.specs.Claims.{book_claims, Laid, Ledger}
use Rattle.table.proofs.claims.claim_all.Given as goal

abbrev pub invariant-loop-p : goal.invariant-loop-p
invariant-loop-p l =
    (length l.table ≡ length l.initial.table) × Ledger (Laid (book_claims l.book l.index.places l.ahead l.index.outline.tokens) l.p 0) l.table l.contest
