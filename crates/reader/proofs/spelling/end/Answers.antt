-- The two cases of `ended_at`.
use borrow.Author.Tests.{lt-ltb, le-ltb}
use Rattle.reader.specs.Positional.{ended_at}
use Rattle.reader.proofs.spelling.end.Goals as goal

pub returns-then-at-book : goal.returns-then-at-book
unfolding ended_at
returns-then-at-book c = simp (ended_at, lt-ltb _ _ c.if-at-book.true)

pub returns-else-at-book : goal.returns-else-at-book
unfolding ended_at
returns-else-at-book c = simp (ended_at, le-ltb _ _ c.if-at-book.false)
