-- `listing::lines::grammar_line` meets its contract.
use Rattle.text.proofs.Promise.{put_length}
use Rattle.listing.specs.Listing.{grammar_line}
use Rattle.listing.proofs.lines.grammar_line.Goals as goal

pub shape_of-out : goal.shape_of-out
shape_of-out c = put_length c.numbers_line.ensures

pub returns : goal.returns
unfolding grammar_line
returns c =
    record { put = λ h. rw (h.tokens, h.nonterminals, h.start, h.productions) at c.numbers_line.ensures }
