-- The length, and then each byte.
use Rattle.first.specs.Checks.{too_long, strange}
use Rattle.first.proofs.SymbolStrings.{something}
use Rattle.first.proofs.checks.spelled.Goals as goal

pub returns-then-symbols : goal.returns-then-symbols
returns-then-symbols c = rw c.refusal.ensures (too_long c.if-symbols.true)

pub returns-in-Some : goal.returns-in-Some
returns-in-Some c = rw c.refusal-in-Some.ensures (strange c.if-symbols.false c.in-Some.ensures)

pub returns-in-None : goal.returns-in-None
returns-in-None c = record { short = c.if-symbols.false; symbol = λ i h. something _ (c.in-None.ensures i h) }
