use mathlib.Core.Path.{sym, ◌∙◌}
use Rattle.std.proofs.lemmas.Result.{err_from_is_err_and}
use Rattle.sheet.proofs.Turning.{lines_go, lines_stop, lines_over}
use Rattle.sheet.proofs.judging.judge_lines.Goals as goal

pub returns-in_err-judge_next : goal.returns-in_err-judge_next
returns-in_err-judge_next c =
    let p = err_from_is_err_and c.from_residual.result c.from_residual.ensures.1 in
    rw (p.1, p.2)
    (sym (lines_stop _ _ _ _ _ _ c.loop-test.true c.judge_next.ensures c.in_err-judge_next.was) ∙ c.loop.invariant)

pub loop-preserved : goal.loop-preserved
loop-preserved c =
    rw c.past-place.ensures
    (sym (lines_go _ _ _ _ _ _ c.loop-test.true c.judge_next.ensures c.in_ok-judge_next.was) ∙ c.loop.invariant)

pub returns : goal.returns
returns c = sym (lines_over _ _ _ _ _ _ c.loop-test.false) ∙ c.loop.invariant
