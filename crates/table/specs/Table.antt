-- The LL(1) table as bytes, its claims and conflicts by cell, and a table built without conflict, whoever made it.
-- Document 01, "Sets and table", refusals 8 and 9, and "Running and expanding".
use Rattle.std.specs.Prelude.{◌≡◌, ◌⊎◌, ◌≢◌, true, false, ◌&&◌, List, ℕ, ◌+◌, ◌*◌, ◌/◌, ◌%◌, ◌<◌, ◌≤◌, eqb, ltb, length, get_or}
use Rattle.std.proofs.Math.Option.{Option, some, none}
use Rattle.grammar.specs.Grammar.{Grammar, Column, token, endmark, Claims, Cell, Conflict}
use Rattle.book.specs.Judging.{Serves}

-- the number of cells
abbrev pub size : Grammar → ℕ
size g = g.nonterminals * (g.tokens + 1)

-- column T is the end mark
unfoldable pub column_of : Grammar → ℕ → Column
column_of g j = elim (ltb j g.tokens) [ true ↦ token j | false ↦ endmark ]

-- the row and the column of cell i, which is row × (T + 1) + column
abbrev pub row_at : Grammar → ℕ → ℕ
row_at g i = i / (g.tokens + 1)

abbrev pub column_at : Grammar → ℕ → Column
column_at g i = column_of g (i % (g.tokens + 1))

-- production p claims cell i
abbrev pub ClaimsCell : Grammar → ℕ → ℕ → Type 0
ClaimsCell g i p = Claims g (row_at g i) (column_at g i) p

-- 255 is no production
unfoldable pub held : ℕ → Option ℕ
held byte = elim (eqb byte 255) [ true ↦ none | false ↦ some byte ]

-- each cell holds the only production that claims it, else 255
pub record TableOf (g : Grammar) (table : List ℕ) : Type 0 where
  pub sized : length table ≡ size g
  pub cells : (i : ℕ) → i < size g → Cell g (row_at g i) (column_at g i) (held (get_or table i 255))

-- some cell of the table has two claimants
pub record ContestedCell (g : Grammar) : Type 0 where
  pub cell : ℕ
  pub inside : cell < size g
  pub one : ℕ
  pub other : ℕ
  pub distinct : one ≢ other
  pub claims_one : ClaimsCell g cell one
  pub claims_other : ClaimsCell g cell other

-- cell i is the first with two claimants, of which p is the lowest and q the next lowest
pub record FirstConflict (g : Grammar) (i p q : ℕ) : Type 0 where
  pub inside : i < size g
  pub lowest : ClaimsCell g i p
  pub next : ClaimsCell g i q
  pub order : p < q
  pub others : (r : ℕ) → ClaimsCell g i r → (r ≡ p) ⊎ (q ≤ r)
  pub earlier : (j : ℕ) → j < i → (r s : ℕ) → ClaimsCell g j r → ClaimsCell g j s → r ≡ s

-- the book has no conflict, and each cell is the one that building gives
pub record BuiltWithoutConflict (book table : List ℕ) : Type 0 where
  pub grammar : Grammar
  pub serves : Serves book grammar
  pub no_conflict : ¬ Conflict grammar
  pub built : TableOf grammar table

-- what a table says to the machine: the production in the cell of row A and that column
unfoldable pub cell_of : Grammar → List ℕ → ℕ → Column → Option ℕ
cell_of g table A (token t) =
    elim (ltb A g.nonterminals && ltb t g.tokens) [
      | true ↦ held (get_or table (A * (g.tokens + 1) + t) 255)
      | false ↦ none
    ]
cell_of g table A endmark =
    elim (ltb A g.nonterminals) [
      | true ↦ held (get_or table (A * (g.tokens + 1) + g.tokens) 255)
      | false ↦ none
    ]
