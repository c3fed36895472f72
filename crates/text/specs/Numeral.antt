-- What a text of digits says: its value in a base, and when it is the decimal numeral of a number.
-- Document 01, "The lister and the examples": "Numbers are decimal, highest digit first, without leading zeros".
use Rattle.std.specs.Prelude.{◌≡◌, cond, ◌⊎◌, List, [], ◌∷◌, ℕ, ◌+◌, ◌-◌, ◌*◌, ◌^◌, ◌≤◌, ltb, length, get_or}

-- '0' to '9'
abbrev pub DecimalDigit : ℕ → Type 0
DecimalDigit c = (48 ≤ c) × (c ≤ 57)

-- '0' to '9' or 'a' to 'f'
abbrev pub HexadecimalDigit : ℕ → Type 0
HexadecimalDigit c = DecimalDigit c ⊎ ((97 ≤ c) × (c ≤ 102))

-- every character of a text is of the kind
abbrev pub Each : (ℕ → Type 0) → List ℕ → Type 0
Each Kind [] = Unit {0}
Each Kind (c ∷ text) = Kind c × Each Kind text

unfoldable pub digit_value : ℕ → ℕ
digit_value c = cond (ltb c 58) (c - 48) (c - 87)

-- the first digit counts the most
unfoldable pub value : ℕ → List ℕ → ℕ
value base [] = 0
value base (c ∷ text) = digit_value c * base ^ length text + value base text

-- the text is the decimal numeral of n: digits of that value, and no zero in front of another digit
pub record Numeral (n : ℕ) (text : List ℕ) : Type 0 where
  pub digits : Each DecimalDigit text
  pub written : 1 ≤ length text
  pub leading : get_or text 0 0 ≡ 48 → length text ≡ 1
  pub says : value 10 text ≡ n
