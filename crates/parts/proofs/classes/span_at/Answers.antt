-- `parts::classes::span_at` meets its contract: each return is a law of spans.
use mathlib.Core.Path.{sym, ◌∙◌}
use borrow.Author.Rules.{rules}
use native.Mathlib.Numerals.{add-one, sub-one}
use Rattle.parts.proofs.Spans.{span_missing, span_letter, span_cut, span_falls, span_range}
use Rattle.parts.proofs.classes.span_at.Goals as goal

pub returns-in_err-low : goal.returns-in_err-low
returns-in_err-low c = search (rules, span_missing)

pub returns-then-byte_at-ne-DASH : goal.returns-then-byte_at-ne-DASH
returns-then-byte_at-ne-DASH c =
    span_letter c.args.pattern.now c.args.at c.in_ok-low.ensures (λ e. c.if-byte_at-ne-DASH.true (c.byte_at.ensures ∙ e))

pub returns-in_err-high : goal.returns-in_err-high
returns-in_err-high c = search (rules, span_cut)

pub returns-then-high-low : goal.returns-then-high-low
returns-then-high-low c =
    rw sub-one
    (span_falls c.args.pattern.now c.args.at c.in_ok-low.ensures (sym c.byte_at.ensures ∙ c.if-byte_at-ne-DASH.false)
    (rw add-one at c.in_ok-high.ensures) c.if-high-low.true)

pub returns : goal.returns
returns c =
    span_range c.args.pattern.now c.args.at c.in_ok-low.ensures (sym c.byte_at.ensures ∙ c.if-byte_at-ne-DASH.false)
    (rw add-one at c.in_ok-high.ensures) c.if-high-low.false
