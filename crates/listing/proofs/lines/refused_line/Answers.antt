-- `listing::lines::refused_line` meets its contract.
use Rattle.text.proofs.Promise.{put_length}
use Rattle.listing.specs.Listing.{refused_line}
use Rattle.listing.proofs.lines.refused_line.Goals as goal

pub returns : goal.returns
unfolding refused_line
returns c = c.numbers_line.ensures

pub shape_of-out : goal.shape_of-out
shape_of-out c = put_length (returns c)
