-- The two cases of the test.
use borrow.Author.Rules.{rules}
use Rattle.sets.proofs.Promise.{decides_true, decides_false}
use Rattle.book.proofs.Filling.{follows_whole, none_exactly}
use Rattle.book.proofs.useful.kept.Goals as goal

pub returns-then-within : goal.returns-then-within
returns-then-within c = follows_whole (search rules) (decides_true _ _ c.within.ensures c.if-within.true)

pub returns-else-within : goal.returns-else-within
returns-else-within c = none_exactly c.none.ensures (λ k h. decides_false _ _ c.within.ensures c.if-within.false h.holds)
