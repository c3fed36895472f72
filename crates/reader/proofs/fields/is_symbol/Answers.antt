-- Which bytes are symbols.
use borrow.Author.Tests.{lt-ltb, lt-leb}
use Rattle.reader.proofs.Forms.{symbol_low, symbol_high, symbol_none}
use Rattle.reader.proofs.fields.is_symbol.Goals as goal

pub returns-then-byte-t : goal.returns-then-byte-t
returns-then-byte-t c = rw (lt-ltb _ _ c.if-byte-t.true) (symbol_low _ _ _ c.if-byte-t.true)

pub returns-then-byte-ge128 : goal.returns-then-byte-ge128
returns-then-byte-ge128 c = symbol_high _ _ _ c.if-byte-t.false c.if-byte-ge128.true

pub returns-else-byte-ge128 : goal.returns-else-byte-ge128
returns-else-byte-ge128 c =
    rw (lt-leb _ _ c.if-byte-ge128.false) (symbol_none _ _ _ c.if-byte-t.false c.if-byte-ge128.false)
