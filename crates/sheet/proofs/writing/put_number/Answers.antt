-- The digits and the mark one after the other.
use Rattle.text.proofs.Promise.{put_length}
use Rattle.sheet.proofs.BookText.{number_put}
use Rattle.sheet.proofs.writing.put_number.Goals as goal

pub returns : goal.returns
returns c =
    let args = c.args in
    number_put args.book.now args.field args.mark c.byte_at.ensures c.decimal-written.ensures c.put.ensures

pub shape_of-out : goal.shape_of-out
shape_of-out c = put_length (returns c)
