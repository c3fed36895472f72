-- The invariant: no token passed is higher.
use Prim.Native.Nat.{ℕ, ◌≤◌, ◌<◌}
use lib.ListN.{get_or}
use Rattle.run.proofs.checking.highest.Given as goal

abbrev pub invariant-loop-token : goal.invariant-loop-token
invariant-loop-token l = (j : ℕ) → j < l.token-index → get_or l.tokens j 0 ≤ l.most
