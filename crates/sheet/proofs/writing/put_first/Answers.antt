-- Four numbers, each with its mark.
use Rattle.text.proofs.Promise.{put_length}
use Rattle.sheet.proofs.BookText.{head_put}
use Rattle.sheet.proofs.writing.put_first.Goals as goal

pub returns : goal.returns
returns c =
    let args = c.args in
    head_put args.book.now c.put_number-tokens.ensures c.put_number-nonterminals.ensures c.put_number-start.ensures c.put_number.ensures

pub shape_of-out : goal.shape_of-out
shape_of-out c = put_length (returns c)
