-- The stack as bytes: each symbol's byte as in the book, the top in the highest cell in use.
-- Document 01, "The book" and "Running and expanding".
use Rattle.std.specs.Prelude.{◌≡◌, true, false, ◌&&◌, List, [], ◌∷◌, ◌++◌, ℕ, zero, suc, ◌+◌, ◌-◌, leb, ltb, length, get_or, drop, set, replicate}
use Rattle.std.proofs.lemmas.List.Edits.{sets}
use Rattle.grammar.specs.Grammar.{Form}
use Rattle.grammar.specs.declared.Symbol.{Symbol}
use Rattle.reader.specs.Book.{byte_of}
use Rattle.reader.specs.Fields.{symbol_of_byte}

-- the bytes of a stack, from the bottom up
unfoldable pub stack_bytes : Form → List ℕ
stack_bytes [] = []
stack_bytes (x ∷ α) = stack_bytes α ++ (byte_of x ∷ [])

-- the symbol is spelled by its byte
pub record Spelled (x : Symbol) : Type 0 where
  pub same : symbol_of_byte (byte_of x) ≡ x

-- the stack that the first cells spell, top first
unfoldable pub spelled_by : List ℕ → ℕ → Form
spelled_by cells zero = []
spelled_by cells (suc height) = symbol_of_byte (get_or cells height 0) ∷ spelled_by cells height

-- a stack in a buffer of which so many cells have been in use: those that are no more are 0, and what is beyond stays
unfoldable pub stacked : Form → ℕ → List ℕ → List ℕ
stacked α height buffer = stack_bytes α ++ (replicate (height - length α) 0 ++ drop height buffer)

-- the cell on top gives way to these bytes; where the buffer has no such cells nothing changes
unfoldable pub replacing : (bytes : List ℕ) (below : ℕ) → List ℕ → List ℕ
replacing bytes below buffer =
    elim (ltb below (length buffer) && leb (below + length bytes) (length buffer)) [
      | true ↦ sets (set buffer below 0) below bytes
      | false ↦ buffer
    ]
