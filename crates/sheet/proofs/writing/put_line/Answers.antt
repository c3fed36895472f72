-- The parts of a line one after the other.
use Rattle.text.proofs.Promise.{put_length}
use Rattle.sheet.proofs.BookText.{line_put}
use Rattle.sheet.proofs.writing.put_line.Goals as goal

pub returns : goal.returns
returns c =
    let args = c.args in
    line_put args.book.now args.place c.put-lettered.ensures
    (rw c.left_at.ensures at c.put_value-left.ensures)
    c.put-spaced.ensures
    c.put-marked.ensures
    (rw c.length_at.ensures at c.put_right-listed.ensures)
    c.put.ensures

pub shape_of-out : goal.shape_of-out
shape_of-out c = put_length (returns c)
