-- The six bytes of the header.
use Rattle.text.proofs.Promise.{put_length}
use Rattle.sheet.proofs.Putting.{head_put}
use Rattle.sheet.proofs.booking.put_head.Goals as goal

pub returns : goal.returns
returns c =
    head_put c.args.head c.put-begun.ensures c.put-marked.ensures
    c.put_byte-tokens.ensures
    c.put_byte-nonterminals.ensures
    c.put_byte-start.ensures
    c.put_byte.ensures

pub shape_of-out : goal.shape_of-out
shape_of-out c = put_length (returns c)
