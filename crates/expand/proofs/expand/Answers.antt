-- One case of `ExpandOutcome` for each answer.
use native.Mathlib.Omega.{arith}
use Rattle.expand.specs.Expanding.{refused}
use Rattle.expand.proofs.ExpandAnswers.{expand_too_long, expand_no_stack, expand_ended}
use Rattle.expand.proofs.expand.Goals as goal

pub returns-in-Err : goal.returns-in-Err
returns-in-Err c = refused c.in-Err.ensures

pub returns-then-list-gt-LONGEST_LIST : goal.returns-then-list-gt-LONGEST_LIST
returns-then-list-gt-LONGEST_LIST c = expand_too_long c.in-Ok.ensures c.if-list-gt-LONGEST_LIST.true c.refusal.ensures

pub returns-then-stack-eq0 : goal.returns-then-stack-eq0
returns-then-stack-eq0 c =
    expand_no_stack c.in-Ok.ensures c.if-list-gt-LONGEST_LIST.false c.if-stack-eq0.true (rw c.detail.ensures at c.refusal-then-stack-eq0.ensures)

pub returns : goal.returns
returns c =
    expand_ended c.in-Ok.ensures c.if-list-gt-LONGEST_LIST.false (omega (arith, c.if-stack-eq0.false)) c.expand_on.ensures
