-- `sets::column_bit` meets its contract, by its test.
use borrow.Author.Tests.{lt-ltb, le-ltb}
use Rattle.sets.proofs.column_bit.Goals as goal

pub returns-then-column-tokens : goal.returns-then-column-tokens
returns-then-column-tokens c = simp (lt-ltb _ _ c.if-column-tokens.true)

pub returns-else-column-tokens : goal.returns-else-column-tokens
returns-else-column-tokens c = simp (le-ltb _ _ c.if-column-tokens.false)
