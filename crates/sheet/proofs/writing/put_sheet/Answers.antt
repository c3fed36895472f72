-- The first line, and the lines behind it.
use Rattle.text.proofs.Promise.{put_length}
use Rattle.sheet.proofs.BookText.{book_put}
use Rattle.sheet.proofs.writing.put_sheet.Goals as goal

pub returns : goal.returns
returns c =
    let args = c.args in
    book_put args.book.now c.put_first-first.ensures c.byte_at.ensures c.put_lines.ensures

pub shape_of-out : goal.shape_of-out
shape_of-out c = put_length (returns c)
