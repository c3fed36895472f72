-- `lister::show` meets its contract: the input is listed by its beginning, and the whole listing has room.
use Prim.Native.Nat.{◌<◌}
use native.Mathlib.Omega.{arith}
use lib.ListN.{length, length-take}
use Rattle.answers.specs.Limits.{longest_book}
use Rattle.listing.proofs.Promise.{listed_within, beginning_listed}
use Rattle.lister.proofs.show.Goals as goal

pub slice_bounds-list-end : goal.slice_bounds-list-end
slice_bounds-list-end c =
    omega (arith, length-take c.args.size c.args.book.now, c.requires.read)

pub returns : goal.returns
returns c =
    let past : longest_book < length c.args.book.now = c.requires.beginning in
    rw c.unwrap_or.ensures
    record {
      within = listed_within c.list.ensures;
      listing = λ input same.
          beginning_listed (length c.args.book.now) past input c.requires.room (rw (← same) at c.list.ensures);
    }
