-- The header, and the records behind it.
use Rattle.text.proofs.Promise.{put_length}
use Rattle.sheet.proofs.Putting.{book_put}
use Rattle.sheet.proofs.booking.put_book.Goals as goal

pub returns : goal.returns
returns c =
    let args = c.args in
    book_put args.sheet.now args.head c.put_head-first.ensures c.past.ensures c.put_lines.ensures

pub shape_of-out : goal.shape_of-out
shape_of-out c = put_length (returns c)
