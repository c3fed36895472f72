-- The letter says which number it has to be below.
use mathlib.Core.Path.{sym, ◌∙◌}
use borrow.Author.Tests.{eq-eqb, ne_eqb}
use Rattle.sheet.specs.Judging.{symbol_judged, highest}
use Rattle.sheet.proofs.judging.judge_symbol.Goals as goal
use Rattle.sheet.proofs.judging.judge_symbol.Goals.{then-byte_at-eq116, else-byte_at-eq116}

pub returns : goal.returns
unfolding symbol_judged highest
returns c =
    rw (c.checked.ensures, c.symbol_number-number.ensures, c.past-place.ensures, c.past.ensures)
    (elim c.if-byte_at-eq116.branch [
      | then-byte_at-eq116 w ↦ rw (w.high-is, eq-eqb _ _ (sym c.byte_at.ensures ∙ w.if-byte_at-eq116.true))
      | else-byte_at-eq116 w ↦ rw (w.high-is, ne_eqb _ _ (λ e. w.if-byte_at-eq116.false (c.byte_at.ensures ∙ e)))
    ])
