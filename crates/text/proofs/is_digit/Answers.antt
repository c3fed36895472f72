-- std's test of the range from '0' to '9' is the one of the definition.
use mathlib.Core.Path.{◌∙◌}
use Rattle.text.proofs.ReadingDigits.{digit_in_range}
use Rattle.text.proofs.is_digit.Goals as goal

pub returns : goal.returns
returns c = c.is_ascii_digit.ensures.value ∙ digit_in_range c.args.byte
