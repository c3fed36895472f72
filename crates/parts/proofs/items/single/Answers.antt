-- `parts::items::single` meets its contract.
use mathlib.Core.Path.{sym, ◌∙◌}
use borrow.Author.Rules.{rules}
use native.Mathlib.Numerals.{add-one}
use Rattle.parts.proofs.Singles.{class_single, no_class_single, letter_single, no_letter_single}
use Rattle.parts.proofs.items.single.Goals as goal

pub returns-in_err-next : goal.returns-in_err-next
returns-in_err-next c = search (rules, no_class_single)

pub returns-then-byte_at-eq-OPEN_CLASS : goal.returns-then-byte_at-eq-OPEN_CLASS
returns-then-byte_at-eq-OPEN_CLASS c =
    let args = c.args in
    class_single args.pattern.now args.at args.count (sym c.byte_at.ensures ∙ c.if-byte_at-eq-OPEN_CLASS.true)
    (rw add-one at c.in_ok-next.ensures) c.lone.ensures

pub returns-in_err-letter : goal.returns-in_err-letter
returns-in_err-letter c = search (rules, no_letter_single)

pub returns : goal.returns
returns c =
    let args = c.args in
    letter_single args.pattern.now args.at args.count (λ e. c.if-byte_at-eq-OPEN_CLASS.false (c.byte_at.ensures ∙ e))
    c.in_ok-letter.ensures c.spread.ensures c.lone-2.ensures
