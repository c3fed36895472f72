-- A further digit, or what follows the number.
use mathlib.Core.Path.{sym, ◌∙◌}
use Rattle.sheet.proofs.Stepping.{more_digit, more_other}
use Rattle.sheet.proofs.form.go_on.Goals as goal

pub returns-then-is_digit : goal.returns-then-is_digit
returns-then-is_digit c =
    let args = c.args in
    more_digit args.slot args.byte (sym c.is_digit.ensures ∙ c.if-is_digit.true)

pub returns-else-is_digit : goal.returns-else-is_digit
returns-else-is_digit c =
    let args = c.args in
    more_other args.slot args.byte (sym c.is_digit.ensures ∙ c.if-is_digit.false) c.behind.ensures
