-- A byte below 128 is a token, whose set is itself; any other a nonterminal, whose set stands in the family.
use Rattle.reader.proofs.Promise.{symbol_token, symbol_nonterminal}
use Rattle.first.specs.Trail.{symbol_set}
use Rattle.first.proofs.Trail.{single_token}
use Rattle.first.proofs.forms.symbol_set.Goals as goal

pub returns-then-byte-lt128 : goal.returns-then-byte-lt128
unfolding symbol_set
returns-then-byte-lt128 c = rw (symbol_token _ c.if-byte-lt128.true) (single_token c.single.ensures)

pub returns-else-byte-lt128 : goal.returns-else-byte-lt128
unfolding symbol_set
returns-else-byte-lt128 c = rw (symbol_nonterminal _ c.if-byte-lt128.false) c.load.ensures.loaded
