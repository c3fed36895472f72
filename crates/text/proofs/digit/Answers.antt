-- `text::digit` meets its contract: below ten and from ten on.
use mathlib.Core.Path.{sym}
use Rattle.text.proofs.Value.{digit_low, digit_high}
use Rattle.text.proofs.digit.Goals as goal

pub returns-then-d-lt10 : goal.returns-then-d-lt10
returns-then-d-lt10 c = sym (digit_low c.if-d-lt10.true)

pub returns-else-d-lt10 : goal.returns-else-d-lt10
returns-else-d-lt10 c = sym (digit_high c.if-d-lt10.false)
