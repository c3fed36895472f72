-- `listing::header::header_in` meets its contract.
use Rattle.listing.specs.Writing.{header_in}
use Rattle.listing.proofs.header.header_in.Goals as goal

pub returns : goal.returns
unfolding header_in
returns c = cc
