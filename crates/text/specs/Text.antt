-- Numbers as text, and what it is to write a text into a lent buffer. Characters are their ASCII codes. Document 01,
-- "The lister and the examples": "Numbers are decimal, highest digit first, without leading zeros", and sets "in 16
-- lower-case hex digits".
use Rattle.std.specs.Prelude.{◌≡◌, true, false, cond, List, [], ◌∷◌, ◌++◌, ℕ, zero, suc, ◌+◌, ◌/◌, ◌%◌, ◌^◌, min, max, ltb, length}
use Rattle.std.proofs.lemmas.List.Edits.{sets}

-- the character of a number below sixteen: '0' to '9', then 'a' to 'f'
unfoldable pub digit : ℕ → ℕ
digit d = cond (ltb d 10) (48 + d) (87 + d)

-- the last digits of n, all of them or as many as asked for
unfoldable pub last_digits : ℕ → ℕ → List ℕ
last_digits zero n = []
last_digits (suc places) n =
    elim (ltb n 10) [ true ↦ [] | false ↦ last_digits places (n / 10) ] ++ (digit (n % 10) ∷ [])

-- highest digit first; n has no more than n + 1 digits
unfoldable pub decimal : ℕ → List ℕ
decimal n = last_digits (suc n) n

-- the lowest hexadecimal digits of n, highest first, as many as asked for
unfoldable pub hex_digits : ℕ → ℕ → List ℕ
hex_digits zero n = []
hex_digits (suc places) n = digit (n / 16 ^ places % 16) ∷ hex_digits places n

unfoldable pub hexadecimal : ℕ → List ℕ
hexadecimal n = hex_digits 16 n

-- the text stands in the buffer from `at` on, as far as there is room; all else is as before; the next place is behind
-- it
pub record Put (before : List ℕ) (at : ℕ) (text : List ℕ) (after : List ℕ) (next : ℕ) : Type 0 where
  pub cells : after ≡ sets before at text
  pub place : next ≡ min (at + length text) (max at (length before))
