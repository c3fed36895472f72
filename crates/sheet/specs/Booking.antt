-- The bytes of a book as a sheet says them, by place, whatever the bytes of the sheet are.
-- Only contracts inside the crate cite what stands here.
use Rattle.std.specs.Prelude.{◌≡◌, cond, List, [], ◌∷◌, ◌++◌, ℕ, zero, suc, ◌+◌, ◌%◌, eqb, length, get_or}
use Rattle.answers.specs.Limits.{most_symbols}
use Rattle.text.specs.declared.Number.{Number}
use Rattle.text.specs.Text.{Put}
use Rattle.sheet.specs.Sheet.{letter_t}
use Rattle.sheet.specs.Judging.{past, is_space, symbol_number, left_number, right_place}
use Rattle.sheet.specs.declared.judging.Head.{Head}
use Rattle.sheet.specs.declared.booking.Places.{Places}

-- the byte of the symbol at a place, whose number was read: a token its number, a nonterminal 128 more
unfoldable pub byte_from : List ℕ → (at number : ℕ) → ℕ
byte_from text at number = cond (eqb (get_or text (at + 1) 0) letter_t) (number % 128) (128 + number % 128)

unfoldable pub byte_in : List ℕ → ℕ → ℕ
byte_in text at = byte_from text at (symbol_number text at).value

-- the bytes of the symbols from a place on, at most so many, and the place behind them
unfoldable pub right_in : List ℕ → (room at : ℕ) → List ℕ
right_in text zero at = []
right_in text (suc room) at =
    cond (is_space text at) (byte_in text at ∷ right_in text room (symbol_number text at).next) []

unfoldable pub right_end : List ℕ → (room at : ℕ) → ℕ
right_end text zero at = at
right_end text (suc room) at = cond (is_space text at) (right_end text room (symbol_number text at).next) at

-- a number below 256 as a byte
unfoldable pub number_byte : Number → List ℕ
number_byte number = number.value % 256 ∷ []

-- `PR`, the left side, the length, the symbols of the line at a place
unfoldable pub record_in : List ℕ → ℕ → List ℕ
record_in text at =
    let right = right_in text most_symbols (right_place text at) in
    80 ∷ 82 ∷ (number_byte (left_number text at) ++ (length right ∷ right))

-- the place of the line behind the one at a place
unfoldable pub line_after : List ℕ → ℕ → ℕ
line_after text at = past text (right_end text most_symbols (right_place text at))

-- the records of so many lines
unfoldable pub records_in : List ℕ → (count at : ℕ) → List ℕ
records_in text zero at = []
records_in text (suc count) at = record_in text at ++ records_in text count (line_after text at)

-- `GR`, T, N, the start, P
unfoldable pub head_bytes : Head → List ℕ
head_bytes head =
    71 ∷ 82 ∷ (number_byte head.tokens
    ++ (number_byte head.nonterminals ++ (number_byte head.start ++ number_byte head.count)))

unfoldable pub book_in : List ℕ → Head → List ℕ
book_in text head = head_bytes head ++ records_in text head.count.value (past text head.count.next)

-- bytes are put into the book, and the sheet is read up to a place
pub record Copies (before : List ℕ) (at : ℕ) (bytes : List ℕ) (end : ℕ) (after : List ℕ) (r : Places) : Type 0 where
  pub put : Put before at bytes after r.book
  pub read : r.sheet ≡ end
