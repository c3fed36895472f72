-- The text of a sheet as the bytes of a book say it, by place, whatever the bytes are.
-- Only contracts inside the crate cite what stands here.
use Rattle.std.specs.Prelude.{cond, List, [], ◌++◌, ℕ, zero, suc, ◌-◌, ltb, get_or}
use Rattle.reader.specs.Fields.{left_at, right_at, place_after}
use Rattle.sheet.specs.Sheet.{letter_n, letter_t, line_text, first_line}

-- a byte below 128 is a token, another the nonterminal 128 less
unfoldable pub letter_of : ℕ → ℕ
letter_of b = cond (ltb b 128) letter_t letter_n

unfoldable pub number_of : ℕ → ℕ
number_of b = cond (ltb b 128) b (b - 128)

-- the line of the record at a place
unfoldable pub record_text : List ℕ → ℕ → List ℕ
record_text book at = line_text (record { left = left_at book at; right = right_at book at })

-- the lines of so many records from a place on
unfoldable pub records_text : List ℕ → (count at : ℕ) → List ℕ
records_text book zero at = []
records_text book (suc count) at = record_text book at ++ records_text book count (place_after book at)

-- the first line
unfoldable pub head_text : List ℕ → List ℕ
head_text book =
    first_line
    (record {
      tokens = get_or book 2 0;
      nonterminals = get_or book 3 0;
      start = get_or book 4 0;
      count = get_or book 5 0;
      productions = [];
    })

unfoldable pub book_text : List ℕ → List ℕ
book_text book = head_text book ++ records_text book (get_or book 5 0) 6
