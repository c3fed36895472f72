-- A token adds no nonterminal.
use borrow.Author.Rules.{rules}
use Rattle.book.proofs.Filling.{with_adds, token_names_none, nonterminal_names_one}
use Rattle.book.proofs.useful.with_symbol.Goals as goal

pub returns-in-Token : goal.returns-in-Token
returns-in-Token c = token_names_none c.in-Token.is (search rules)

pub returns-in-Nonterminal : goal.returns-in-Nonterminal
returns-in-Nonterminal c = nonterminal_names_one c.in-Nonterminal.is (with_adds c.with.ensures)
