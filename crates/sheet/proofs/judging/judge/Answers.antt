-- The first line, the lines, the end, each where the one before it was met.
use mathlib.Core.Path.{sym, ◌∙◌}
use Rattle.std.proofs.lemmas.Result.{err_from_is_err_and}
use Rattle.reader.specs.Verdicts.{and_then}
use Rattle.sheet.specs.Judging.{both, end_judged, sheet_judged}
use Rattle.sheet.proofs.judging.judge.Goals as goal

pub returns-in_err-judge_head : goal.returns-in_err-judge_head
unfolding sheet_judged both and_then
returns-in_err-judge_head c =
    let p = err_from_is_err_and c.from_residual.result c.from_residual.ensures.1 in
    rw (p.1, p.2, sym c.judge_head.ensures ∙ c.in_err-judge_head.was)

pub returns-in_err-end : goal.returns-in_err-end
unfolding sheet_judged both end_judged and_then
returns-in_err-end c =
    let p = err_from_is_err_and c.from_residual-in_err-end.result c.from_residual-in_err-end.ensures.1 in
    let listed = rw c.past-from.ensures at (sym c.judge_lines.ensures ∙ c.in_err-end.was) in
    rw (p.1, p.2, sym c.judge_head.ensures ∙ c.in_ok-judge_head.was, listed)

pub returns : goal.returns
unfolding sheet_judged both end_judged and_then
returns c =
    let listed = rw c.past-from.ensures at (sym c.judge_lines.ensures ∙ c.in_ok-end.was) in
    rw (c.judge_end.ensures, sym c.judge_head.ensures ∙ c.in_ok-judge_head.was, listed)
