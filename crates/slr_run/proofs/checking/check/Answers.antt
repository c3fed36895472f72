-- One case of the checks for each answer.
use Rattle.slr_run.proofs.Checks.{check_misfit, check_long, check_strange, check_no_stack, check_done}
use Rattle.slr_run.proofs.checking.check.Goals as goal

pub returns-in-Some : goal.returns-in-Some
returns-in-Some c = check_misfit c.in-Some.ensures c.refusal.ensures

pub returns-then-tokens-gt-LONGEST_STRING : goal.returns-then-tokens-gt-LONGEST_STRING
returns-then-tokens-gt-LONGEST_STRING c =
    check_long c.in_default.ensures c.if-tokens-gt-LONGEST_STRING.true c.refusal-then-tokens-gt-LONGEST_STRING.ensures

pub returns-in-Some-first_above : goal.returns-in-Some-first_above
returns-in-Some-first_above c =
    check_strange c.in_default.ensures c.if-tokens-gt-LONGEST_STRING.false c.in-Some-first_above.ensures c.refusal-in-Some-first_above.ensures

pub returns-then-cells-eq0 : goal.returns-then-cells-eq0
returns-then-cells-eq0 c =
    check_no_stack c.in_default.ensures c.if-tokens-gt-LONGEST_STRING.false c.in_default-first_above.ensures c.if-cells-eq0.true
    (rw c.detail.ensures at c.refusal-then-cells-eq0.ensures)

pub returns : goal.returns
returns c =
    check_done c.in_default.ensures c.if-tokens-gt-LONGEST_STRING.false c.in_default-first_above.ensures c.if-cells-eq0.false
