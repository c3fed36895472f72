-- What the index of a book that serves a grammar says, read through the accessors of `reader::fields`.
-- Document 01: "the run knows a book only through what the reading layer promises".
use Rattle.std.specs.Prelude.{◌≡◌, List, ℕ, ◌+◌, ◌≤◌, ◌<◌, length, get_or}
use Rattle.std.proofs.Math.Option.{some}
use Rattle.std.proofs.Math.ListN.{get_elem?}
use Rattle.grammar.specs.declared.Symbol.{Symbol}
use Rattle.grammar.specs.Grammar.{Form, Grammar, Rule}
use Rattle.answers.specs.Limits.{most_productions, most_symbols, longest_book}
use Rattle.reader.specs.Fields.{left_at, length_at, symbol_at}
use Rattle.book.specs.declared.Index.{Index}

-- what a place of the book says: the production A → β
pub record Entry (b : List ℕ) (at A : ℕ) (β : Form) : Type 0 where
  pub place_fits : at < longest_book
  pub within : at + 4 + length β ≤ length b
  pub length_fits : length β ≤ most_symbols
  pub left : left_at b at ≡ A
  pub size : length_at b at ≡ length β
  pub symbols : (i : ℕ) {s : Symbol} → get_elem? β i ≡ some s → symbol_at b at i ≡ s

-- the index of a book that serves the grammar g
pub record Served (b : List ℕ) (g : Grammar) (i : Index) : Type 0 where
  pub tokens : i.outline.tokens ≡ g.tokens
  pub nonterminals : i.outline.nonterminals ≡ g.nonterminals
  pub start : i.outline.start ≡ g.start
  pub productions : i.outline.productions ≡ length g.productions
  pub cells : length i.places ≡ most_productions
  pub entry : {p A : ℕ} {β : Form} → Rule g p A β → Entry b (get_or i.places p 0) A β
