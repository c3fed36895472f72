-- A zero, another digit, or neither.
use mathlib.Core.Path.{sym, ◌∙◌}
use Rattle.sheet.proofs.Stepping.{begin_zero, begin_digit, begin_stuck}
use Rattle.sheet.proofs.form.begin.Goals as goal

pub returns-then-byte-eq48 : goal.returns-then-byte-eq48
returns-then-byte-eq48 c = begin_zero c.args.slot c.args.byte c.if-byte-eq48.true

pub returns-then-is_digit : goal.returns-then-is_digit
returns-then-is_digit c =
    let args = c.args in
    begin_digit args.slot args.byte c.if-byte-eq48.false (sym c.is_digit.ensures ∙ c.if-is_digit.true)

pub returns-else-is_digit : goal.returns-else-is_digit
returns-else-is_digit c =
    let args = c.args in
    begin_stuck args.slot args.byte c.if-byte-eq48.false (sym c.is_digit.ensures ∙ c.if-is_digit.false)
