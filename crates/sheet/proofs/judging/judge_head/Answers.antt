-- The four checks, each where the one before it was met.
use mathlib.Core.Path.{sym, ◌∙◌}
use Rattle.std.proofs.lemmas.Result.{err_from_is_err_and}
use Rattle.reader.specs.Verdicts.{and_then}
use Rattle.sheet.specs.Judging.{both, head_judged}
use Rattle.sheet.proofs.judging.judge_head.Goals as goal

pub returns-in_err-checked : goal.returns-in_err-checked
unfolding head_judged both and_then
returns-in_err-checked c =
    let p = err_from_is_err_and c.from_residual.result c.from_residual.ensures.1 in
    rw (p.1, p.2, sym c.checked.ensures ∙ c.in_err-checked.was)

pub returns-in_err-checked-2 : goal.returns-in_err-checked-2
unfolding head_judged both and_then
returns-in_err-checked-2 c =
    let p = err_from_is_err_and c.from_residual-in_err-checked-2.result c.from_residual-in_err-checked-2.ensures.1 in
    let second = rw c.past-second.ensures at (sym c.checked-2.ensures ∙ c.in_err-checked-2.was) in
    rw (p.1, p.2, sym c.checked.ensures ∙ c.in_ok-checked.was, second)

pub returns-in_err-checked-3 : goal.returns-in_err-checked-3
unfolding head_judged both and_then
returns-in_err-checked-3 c =
    let p = err_from_is_err_and c.from_residual-in_err-checked-3.result c.from_residual-in_err-checked-3.ensures.1 in
    let second = rw c.past-second.ensures at (sym c.checked-2.ensures ∙ c.in_ok-checked-2.was) in
    let third = rw c.past-third.ensures at (sym c.checked-3.ensures ∙ c.in_err-checked-3.was) in
    rw (p.1, p.2, sym c.checked.ensures ∙ c.in_ok-checked.was, second, third)

pub returns : goal.returns
unfolding head_judged both and_then
returns c =
    let second = rw c.past-second.ensures at (sym c.checked-2.ensures ∙ c.in_ok-checked-2.was) in
    let third = rw c.past-third.ensures at (sym c.checked-3.ensures ∙ c.in_ok-checked-3.was) in
    rw (c.checked-4.ensures, c.past-fourth.ensures, sym c.checked.ensures ∙ c.in_ok-checked.was, second, third)
