-- Worked examples: bad texts with their places, good texts.
-- Document 02, W3.
use Rattle.std.specs.Prelude.{List, [], ◌∷◌, ℕ}
use Prim.Native.String.{String}
use Rattle.pattern.specs.House.{codes}

pub record Row : Type 0 where
  pub text : List ℕ
  pub place : ℕ

abbrev row : String → ℕ → Row
row text place = record { text = codes text; place = place }

unfoldable pub bad_texts : List Row
bad_texts =
    row "" 0
    ∷ row "*" 0
    ∷ row "]" 0
    ∷ row "|a" 0
    ∷ row "\\" 1
    ∷ row "a)" 1
    ∷ row "()" 1
    ∷ row "[]" 1
    ∷ row "[+]" 1
    ∷ row "[+-]" 1
    ∷ row "[-a]" 1
    ∷ row "a**" 2
    ∷ row "a+?" 2
    ∷ row "(a" 2
    ∷ row "a(" 2
    ∷ row "a\\" 2
    ∷ row "a()" 2
    ∷ row "a?" 2
    ∷ row "a||b" 2
    ∷ row "[a|b]" 2
    ∷ row "[a-]" 3
    ∷ row "[z-a]" 3
    ∷ row "[z-\\a]" 4
    ∷ row "[a-" 3
    ∷ row "[a-b-c]" 4
    ∷ row "[a-c-e]" 4
    ∷ row "[a\\]" 4
    ∷ row "[A-Z" 4
    ∷ row "(a|)" 3
    ∷ row "a*|b" 4
    ∷ row "(a?)+" 5
    ∷ row "(((((((((a)))))))))" 8
    ∷ record { text = 91 ∷ 255 ∷ 45 ∷ 254 ∷ 93 ∷ []; place = 3 }
    ∷ []

unfoldable pub good_texts : List (List ℕ)
good_texts =
    codes "a-b"
    ∷ codes ".^$"
    ∷ codes "[^a]"
    ∷ codes "x{2}"
    ∷ codes "[a-a]"
    ∷ codes "[ -~]"
    ∷ codes "[\\a-\\b]"
    ∷ codes "[\\+\\-]"
    ∷ codes "((((((((a))))))))"
    ∷ (0 ∷ 10 ∷ 128 ∷ 255 ∷ [])
    ∷ []
