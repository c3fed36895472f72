-- The refusal of the reading, or the offer on the grammar that its index tells of.
use Rattle.std.proofs.lemmas.Result.{err_from_is_err_and}
use Rattle.offer.specs.Resuming.{refused, offered}
use Rattle.offer.proofs.offering.offer.Goals as goal

pub returns-in_err-index : goal.returns-in_err-index
returns-in_err-index c =
    let p = err_from_is_err_and c.from_residual.result c.from_residual.ensures.1 in
    rw (p.1, p.2) (refused c.in_err-index.was)

pub returns : goal.returns
returns c = offered c.in_ok-index.was c.offer_on.ensures
