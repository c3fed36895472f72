-- Within the range, or beyond it.
use mathlib.Core.Logic.{inl, inr}
use borrow.Author.Tests.{lt-leb, le-leb, lt-ltb, le-ltb}
use Rattle.sheet.specs.Judging.{checked}
use Rattle.sheet.proofs.judging.checked.Goals as goal

pub returns-then-number-high : goal.returns-then-number-high
unfolding checked
returns-then-number-high c = rw (le-leb _ _ c.if-low-number.true, lt-ltb _ _ c.if-number-high.true)

pub returns-else-low-number : goal.returns-else-low-number
unfolding checked
returns-else-low-number c =
    elim c.else-low-number.either [
      | inl h ↦ rw (le-leb _ _ h.0, le-ltb _ _ h.1)
      | inr h ↦ rw (lt-leb _ _ h)
    ]
