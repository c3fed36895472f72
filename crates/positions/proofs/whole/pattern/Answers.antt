-- What the alternation from the first byte on comes to, and whether it is the whole text.
use borrow.Author.Rules.{rules}
use Rattle.positions.proofs.WholePatterns.{unread_bad, bad_part, whole_part}
use Rattle.positions.proofs.whole.pattern.Goals as goal

pub returns-in_err-part : goal.returns-in_err-part
returns-in_err-part c = search (rules, unread_bad)

pub returns-then-whole : goal.returns-then-whole
returns-then-whole c = whole_part c.in_ok-part.ensures c.if-whole.ensures

pub returns-else-whole : goal.returns-else-whole
returns-else-whole c = bad_part c.in_ok-part.ensures c.if-whole.ensures
