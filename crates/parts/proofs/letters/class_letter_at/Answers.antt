-- `parts::letters::class_letter_at` meets its contract.
use mathlib.Core.Path.{sym, ◌∙◌}
use Rattle.parts.proofs.ClassLetters.{class_letter, dash_letter}
use Rattle.parts.proofs.letters.class_letter_at.Goals as goal

pub returns-then-byte_at-eq-DASH : goal.returns-then-byte_at-eq-DASH
returns-then-byte_at-eq-DASH c =
    let args = c.args in
    dash_letter args.pattern.now args.at (sym c.byte_at.ensures ∙ c.if-byte_at-eq-DASH.true)

pub returns : goal.returns
returns c =
    let args = c.args in
    class_letter args.pattern.now args.at (λ e. c.if-byte_at-eq-DASH.false (c.byte_at.ensures ∙ e))
    c.letter_at.ensures
