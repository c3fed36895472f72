-- The invariant: every number gone through is in the set.
use mathlib.Core.Path.{◌≡◌}
use mathlib.Core.Bool.{true}
use Prim.Native.Nat.{ℕ, ◌<◌}
use Rattle.sets.specs.Sets.{member}
use Rattle.sets.specs.Calls.{number}
use Rattle.book.proofs.useful.lowest_missing.Given as goal

abbrev pub invariant-loop-k : goal.invariant-loop-k
invariant-loop-k l = (j : ℕ) → j < l.k → member j (number l.set) ≡ true
