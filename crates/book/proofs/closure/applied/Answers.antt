-- The two cases of the test, and what a loaded set and a union are.
use borrow.Author.Rules.{rules}
use Rattle.sets.proofs.Promise.{decides_true, decides_false, union_is}
use Rattle.book.proofs.Passes.{follows_where, follows_nowhere}
use Rattle.book.proofs.closure.applied.Goals as goal

pub returns-then-within : goal.returns-then-within
returns-then-within c = follows_where c.union.ensures.fits
    (rw c.load.ensures.loaded at (decides_true _ _ c.within.ensures c.if-within.true))
    (rw c.load-then-within.ensures.loaded at (union_is c.union.ensures))

pub returns-else-within : goal.returns-else-within
returns-else-within c = follows_nowhere _ _ (search rules)
    (rw c.load.ensures.loaded at (decides_false _ _ c.within.ensures c.if-within.false))
