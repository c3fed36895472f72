-- The invariant: with what is left put on top, the stack is the whole answer.
use mathlib.Core.Path.{◌≡◌}
use Prim.Native.Nat.{◌+◌, ◌-◌}
use lib.ListN.{length}
use lib.Seq.{sets}
use Rattle.reader.specs.Fields.{form_in}
use Rattle.stack.specs.Stack.{stack_bytes}
use Rattle.stack.proofs.push.Given as goal

abbrev pub invariant-loop-i : goal.invariant-loop-i
invariant-loop-i l =
    (length l.stack ≡ length l.initial.stack) × (sets l.stack l.height (stack_bytes (form_in l.book (l.at + 4 + l.i) (l.count - l.i))) ≡ sets l.initial.stack l.height (stack_bytes (form_in l.book (l.at + 4) l.count)))
