use borrow.Author.Rules.{rules}
use mathlib.Core.Path.{◌≡◌, sym, ◌∙◌}
use mathlib.Core.Bool.{true}
use Prim.Native.Nat.{◌<◌}
use native.Mathlib.Omega.{arith}
use lib.ListN.{length, get_or}
use Rattle.text.specs.Reading.{is_digit}
use Rattle.text.specs.Numeral.{DecimalDigit}
use Rattle.text.proofs.ReadingDigits.{digit_within, digit_is, underway_start, underway_more, underway_end}
use Rattle.text.proofs.read_number.Goals as goal
use Rattle.text.proofs.read_number.Goals.{In-loop-value}

-- where the loop goes on, a digit stands at the place, within the text
digit_here : (c : In-loop-value)
    → is_digit (get_or c.args.text.now c.loop-value.next 0) ≡ true
digit_here c = sym c.digit_at.ensures ∙ c.loop-value-test.true

within : (c : In-loop-value) → c.loop-value.next < length c.args.text.now
within c = digit_within c.args.text.now c.loop-value.next (digit_here c)

pub loop-value-init : goal.loop-value-init
loop-value-init c = underway_start _ _

pub bounds-text-next : goal.bounds-text-next
bounds-text-next c = within (goal.at.bounds-text-next c).In-loop-value

pub with_digit-value-requires : goal.with_digit-value-requires
with_digit-value-requires c =
    let digit : DecimalDigit (get_or c.args.text.now c.loop-value.next 0) =
    digit_is _ (digit_here (goal.at.with_digit-value-requires c).In-loop-value) in
    (c.loop-value.invariant.small, digit.0)

pub overflow_add-next : goal.overflow_add-next
overflow_add-next c = let inside = within (goal.at.overflow_add-next c).In-loop-value in search rules

pub loop-value-smaller : goal.loop-value-smaller
loop-value-smaller c = omega (arith, within (goal.at.loop-value-smaller c).In-loop-value)

pub loop-value-preserved : goal.loop-value-preserved
loop-value-preserved c =
    rw c.with_digit-value.ensures (underway_more c.loop-value.invariant (digit_here (goal.at.loop-value-preserved c).In-loop-value))

pub returns : goal.returns
returns c = underway_end c.loop-value.invariant (sym c.digit_at.ensures ∙ c.loop-value-test.false)
