-- A byte below 128 is a token.
use Rattle.sheet.proofs.BookText.{number_low, number_high}
use Rattle.sheet.proofs.writing.number_of.Goals as goal

pub returns-then-byte-lt128 : goal.returns-then-byte-lt128
returns-then-byte-lt128 c = number_low c.args.byte c.if-byte-lt128.true

pub returns-else-byte-lt128 : goal.returns-else-byte-lt128
returns-else-byte-lt128 c = number_high c.args.byte c.if-byte-lt128.false
