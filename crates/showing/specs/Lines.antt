-- The lines of numbers, of sets and of a table's rows. Characters are their ASCII codes.
-- Document 01, "The lister and the examples".
use Rattle.std.specs.Prelude.{true, false, List, [], ◌∷◌, ◌++◌, ℕ, zero, suc, eqb, take, drop}
use Rattle.text.specs.Text.{decimal}
use Rattle.showing.specs.Words.{codes, spaced, newline, each, numbered, set_text}

-- a line of a word and numbers
unfoldable pub numbers_line : (word numbers : List ℕ) → List ℕ
numbers_line word numbers = word ++ (numbered numbers ++ (newline ∷ []))

-- the word, the number of a nonterminal or a production, its set
unfoldable pub set_line : (word : List ℕ) → (n x : ℕ) → List ℕ
set_line word n x = word ++ (numbered (n ∷ []) ++ (set_text x ++ (newline ∷ [])))

-- a line for each set, numbered from n on
unfoldable pub set_lines : (word : List ℕ) → ℕ → List ℕ → List ℕ
set_lines word n [] = []
set_lines word n (x ∷ family) = set_line word n x ++ set_lines word (suc n) family

abbrev pub dash : ℕ
dash = 45

-- a cell, `-` for 255
abbrev pub cell_sign : ℕ → List ℕ
cell_sign c = elim (eqb c 255) [ true ↦ dash ∷ [] | false ↦ decimal c ]

-- a cell behind a space
unfoldable pub cell_text : ℕ → List ℕ
cell_text = spaced cell_sign

abbrev pub cells_text : List ℕ → List ℕ
cells_text cells = each cell_text cells

-- the word that opens a row
abbrev pub row_word : List ℕ
row_word = codes "row"

-- `row`, the nonterminal, its cells
unfoldable pub row_line : ℕ → List ℕ → List ℕ
row_line A cells = row_word ++ (numbered (A ∷ []) ++ (cells_text cells ++ (newline ∷ [])))

-- so many rows of `columns` cells each, from row A on
unfoldable pub row_lines : (columns A rows : ℕ) → List ℕ → List ℕ
row_lines columns A zero cells = []
row_lines columns A (suc rows) cells =
    row_line A (take columns cells) ++ row_lines columns (suc A) rows (drop columns cells)
