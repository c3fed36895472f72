-- The two cases of `ended_at`.
use borrow.Author.Tests.{lt-ltb, le-ltb}
use Rattle.sheet.specs.Judging.{ended_at}
use Rattle.sheet.proofs.judging.judge_end.Goals as goal

pub returns-then-at-sheet : goal.returns-then-at-sheet
unfolding ended_at
returns-then-at-sheet c = rw (lt-ltb _ _ c.if-at-sheet.true)

pub returns-else-at-sheet : goal.returns-else-at-sheet
unfolding ended_at
returns-else-at-sheet c = rw (le-ltb _ _ c.if-at-sheet.false)
