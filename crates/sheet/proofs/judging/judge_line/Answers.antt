-- The left side, and the symbols where it was met.
use mathlib.Core.Path.{sym, ◌∙◌}
use Rattle.std.proofs.lemmas.Result.{err_from_is_err_and}
use Rattle.reader.specs.Verdicts.{and_then}
use Rattle.sheet.specs.Judging.{both, line_judged}
use Rattle.sheet.proofs.judging.judge_line.Goals as goal

pub returns-in_err-checked : goal.returns-in_err-checked
unfolding line_judged both and_then
returns-in_err-checked c =
    let p = err_from_is_err_and c.from_residual.result c.from_residual.ensures.1 in
    rw (p.1, p.2, rw (c.left_number.ensures, c.past.ensures) at (sym c.checked.ensures ∙ c.in_err-checked.was))

pub returns : goal.returns
unfolding line_judged both and_then
returns c =
    rw (
      c.judge_symbols.ensures,
      c.right_place.ensures,
      rw (c.left_number.ensures, c.past.ensures) at (sym c.checked.ensures ∙ c.in_ok-checked.was),
    )
