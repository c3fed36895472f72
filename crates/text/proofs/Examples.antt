-- Numbers of document 01's listing and the bounds of a word, by computing the definitions.
use mathlib.Core.Path.{◌≡◌, refl}
use mathlib.Core.List.{[], ◌∷◌}
use Rattle.text.specs.Text.{digit, last_digits, decimal, hex_digits, hexadecimal}

zero_is : decimal 0 ≡ 48 ∷ []
unfolding decimal last_digits digit
zero_is = refl

-- refusal 8 of example H1 has detail 515
detail_is : decimal 515 ≡ 53 ∷ 49 ∷ 53 ∷ []
unfolding decimal last_digits digit
detail_is = refl

-- the largest word, 18446744073709551615
largest_is : decimal 0xffffffffffffffff
    ≡ 49 ∷ 56 ∷ 52 ∷ 52 ∷ 54 ∷ 55 ∷ 52 ∷ 52 ∷ 48 ∷ 55 ∷ 51 ∷ 55 ∷ 48 ∷ 57 ∷ 53 ∷ 53 ∷ 49 ∷ 54 ∷ 49 ∷ 53 ∷ []
unfolding decimal last_digits digit
largest_is = refl

-- FIRST of nonterminal 2 of the house book, 8000000000000004
first_is : hexadecimal 0x8000000000000004
    ≡ 56 ∷ 48 ∷ 48 ∷ 48 ∷ 48 ∷ 48 ∷ 48 ∷ 48 ∷ 48 ∷ 48 ∷ 48 ∷ 48 ∷ 48 ∷ 48 ∷ 48 ∷ 52 ∷ []
unfolding hexadecimal hex_digits digit
first_is = refl

-- every digit, fedcba9876543210
digits_are : hexadecimal 0xfedcba9876543210
    ≡ 102 ∷ 101 ∷ 100 ∷ 99 ∷ 98 ∷ 97 ∷ 57 ∷ 56 ∷ 55 ∷ 54 ∷ 53 ∷ 52 ∷ 51 ∷ 50 ∷ 49 ∷ 48 ∷ []
unfolding hexadecimal hex_digits digit
digits_are = refl
