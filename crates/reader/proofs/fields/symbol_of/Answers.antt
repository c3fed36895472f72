-- The two cases of `symbol_of_byte`.
use borrow.Author.Tests.{lt-ltb, le-ltb}
use Rattle.reader.specs.Fields.{symbol_of_byte}
use Rattle.reader.proofs.fields.symbol_of.Goals as goal

pub returns-then-byte-lt128 : goal.returns-then-byte-lt128
unfolding symbol_of_byte
returns-then-byte-lt128 c = simp (symbol_of_byte, lt-ltb _ _ c.if-byte-lt128.true)

pub returns-else-byte-lt128 : goal.returns-else-byte-lt128
unfolding symbol_of_byte
returns-else-byte-lt128 c = simp (symbol_of_byte, le-ltb _ _ c.if-byte-lt128.false)
