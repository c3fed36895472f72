-- The space, the letter and the number one after the other.
use Rattle.text.proofs.Promise.{put_length}
use Rattle.sheet.proofs.BookText.{symbol_put}
use Rattle.sheet.proofs.writing.put_symbol.Goals as goal

pub returns : goal.returns
returns c =
    symbol_put c.args.byte c.put-spaced.ensures
    (rw c.letter_of.ensures at c.put-lettered.ensures)
    (rw c.number_of.ensures at c.put_value.ensures)

pub shape_of-out : goal.shape_of-out
shape_of-out c = put_length (returns c)
