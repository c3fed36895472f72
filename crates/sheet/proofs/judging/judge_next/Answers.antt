-- A line, or none.
use borrow.Author.Tests.{lt-ltb, le-ltb}
use Rattle.sheet.specs.Judging.{next_judged}
use Rattle.sheet.proofs.judging.judge_next.Goals as goal

pub returns-then-at-sheet : goal.returns-then-at-sheet
unfolding next_judged
returns-then-at-sheet c = rw (lt-ltb _ _ c.if-at-sheet.true) c.judge_line.ensures

pub returns-else-at-sheet : goal.returns-else-at-sheet
unfolding next_judged
returns-else-at-sheet c = rw (le-ltb _ _ c.if-at-sheet.false)
