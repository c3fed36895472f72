-- `points::same` meets its contract. The loop's invariant: every pair of words that was looked at is the same.
use mathlib.Core.Path.{◌≡◌}
use Prim.Native.Nat.{ℕ, ◌+◌, ◌<◌}
use lib.ListN.{get_or}
use Rattle.points.proofs.same.Given as goal

abbrev pub invariant-loop-i : goal.invariant-loop-i
invariant-loop-i l =
    (j : ℕ) → j < l.i → get_or l.sets (l.at + j) 0 ≡ get_or l.other (l.from + j) 0
