-- `listing::write` meets its contract: what building answers says which lines are the listing.
use Rattle.text.proofs.Promise.{put_length}
use Rattle.listing.specs.Writing.{header_in}
use Rattle.listing.proofs.Built.{enough, listing_refused, listing_filled}
use Rattle.listing.proofs.write.Goals as goal

pub served-requires : goal.served-requires
unfolding header_in
served-requires c =
    let f = (listing_filled enough c.build-answer.ensures c.if-answer-eq-DONE.true) in
    rw (c.header_in.ensures, f.header.nonterminals) (f.first_fits, f.follow_fits)

pub returns-then-answer-eq-DONE : goal.returns-then-answer-eq-DONE
returns-then-answer-eq-DONE c =
    let f = (listing_filled enough c.build-answer.ensures c.if-answer-eq-DONE.true) in
    record {
      text = _;
      listing = f.listing;
      put = c.served.ensures.put (rw c.header_in.ensures f.header);
    }

pub returns-else-answer-eq-DONE : goal.returns-else-answer-eq-DONE
returns-else-answer-eq-DONE c =
    record {
      text = _;
      listing = listing_refused enough c.build-answer.ensures c.if-answer-eq-DONE.false;
      put = c.refused_line.ensures;
    }

pub shape_of-out-then-answer-eq-DONE : goal.shape_of-out-then-answer-eq-DONE
shape_of-out-then-answer-eq-DONE c = put_length (returns-then-answer-eq-DONE c).put

pub shape_of-out-else-answer-eq-DONE : goal.shape_of-out-else-answer-eq-DONE
shape_of-out-else-answer-eq-DONE c = put_length (returns-else-answer-eq-DONE c).put
