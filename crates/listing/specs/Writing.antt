-- What the functions that write a listing ensure. Inner: no public contract cites it.
use Rattle.std.specs.Prelude.{◌≡◌, List, ℕ, length, take, get_or}
use Rattle.grammar.specs.Grammar.{Grammar}
use Rattle.text.specs.Text.{Put}
use Rattle.book.specs.declared.columns.Outline.{Outline}
use Rattle.listing.specs.Listing.{grammar_line, served_text, Listing}

-- the numbers behind `GR`
unfoldable pub header_in : List ℕ → Outline
header_in book =
    record { tokens = get_or book 2 0; nonterminals = get_or book 3 0; start = get_or book 4 0; productions = get_or book 5 0 }

-- the numbers are the grammar's
pub record HeaderOf (g : Grammar) (header : Outline) : Type 0 where
  pub tokens : header.tokens ≡ g.tokens
  pub nonterminals : header.nonterminals ≡ g.nonterminals
  pub start : header.start ≡ g.start
  pub productions : header.productions ≡ length g.productions

-- the line of whatever grammar has this header stands at the front
pub record GrammarPut (header : Outline) (before after : List ℕ) (next : ℕ) : Type 0 where
  pub put : {g : Grammar} → HeaderOf g header → Put before 0 (grammar_line g) after next

-- so do all lines of that grammar, its sets and its table
pub record ServedPut (header : Outline) (first follow table before after : List ℕ) (next : ℕ) : Type 0 where
  pub put : {g : Grammar}
      → HeaderOf g header
      → Put before 0 (served_text g (take g.nonterminals first) (take g.nonterminals follow) table) after next

-- the listing stands at the front as far as there is room, and so many bytes of it are written
pub record Written (book before after : List ℕ) (written : ℕ) : Type 0 where
  pub text : List ℕ
  pub listing : Listing book text
  pub put : Put before 0 text after written
