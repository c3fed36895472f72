-- The stack and the list keep their lengths.
use Rattle.std.proofs.Common.{length, ◌≡◌}
use Rattle.run_tests.proofs.chaining.offer_each.Given as goal

abbrev pub invariant-loop-token : goal.invariant-loop-token
invariant-loop-token l =
    (length l.stack ≡ length l.initial.stack) × (length l.list ≡ length l.initial.list)
