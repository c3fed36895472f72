-- What a text says where a number is read: the digits that stand from a place on.
-- Document 02, W1: "decimal without leading zeros"; every range of a sheet's numbers ends below 1,000.
use Rattle.std.specs.Prelude.{Bool, true, false, ◌&&◌, List, [], ◌∷◌, ℕ, ◌+◌, min, leb, ltb, length, drop}
use Rattle.text.specs.Numeral.{value}
use Rattle.text.specs.declared.Number.{Number}

-- '0' to '9'
unfoldable pub is_digit : ℕ → Bool
is_digit b = leb 48 b && ltb b 58

-- the digits in front of a text, up to the first byte that is none
unfoldable pub leading_digits : List ℕ → List ℕ
leading_digits [] = []
leading_digits (b ∷ text) = elim (is_digit b) [ true ↦ b ∷ leading_digits text | false ↦ [] ]

-- larger numbers are read as this one
abbrev pub most_read : ℕ
most_read = 1000

-- the value of the digits from `at` on, and the place behind them
unfoldable pub number_at : List ℕ → ℕ → Number
number_at text at =
    record {
      value = min (value 10 (leading_digits (drop at text))) most_read;
      next = at + length (leading_digits (drop at text));
    }
