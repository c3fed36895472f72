-- The row's set before, the union that is stored, and the first cell that they share.
use Rattle.sets.proofs.Promise.{union_is}
use Rattle.checker.proofs.Rivalry.{claims_added}
use Rattle.checker.proofs.contests.add_claims.Goals as goal

pub returns : goal.returns
returns c =
    claims_added c.load-before.ensures.loaded (union_is c.union.ensures) c.store.ensures c.contest_row.ensures
