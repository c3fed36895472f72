-- The house patterns: `restore`, `(St )?[A-Z][a-z]+`, `in` and `and`, their texts and what they mean.
use Rattle.std.specs.Prelude.{List, [], ◌∷◌, map, ℕ}
use Prim.Native.Char.{code}
use Prim.Native.String.{String}
use Prim.Native.String as string
use Rattle.pattern.specs.Pattern.{Expression, one, cat, plus, opt}

-- the codes of a text's characters
abbrev pub codes : String → List ℕ
codes string.[] = []
codes (string.◌∷◌ c text) = code c ∷ codes text

-- a class of one range
abbrev pub span : ℕ → ℕ → Expression
span low high = one (record { low = low; high = high } ∷ [])

-- x, then the bytes, each in turn
unfoldable pub along : Expression → List ℕ → Expression
along x [] = x
along x (b ∷ w) = along (cat x (span b b)) w

-- the bytes in turn; no string is a word of none
unfoldable pub word : List ℕ → Expression
word [] = one []
word (b ∷ w) = along (span b b) w

-- an optional "St ", a capital, small letters
unfoldable pub parish : Expression
parish = cat (cat (opt (word (codes "St "))) (span 65 90)) (plus (span 97 122))

pub record Sample : Type 0 where
  pub text : List ℕ
  pub meaning : Expression

unfoldable pub house : List Sample
house =
    record { text = codes "restore"; meaning = word (codes "restore") }
    ∷ record { text = codes "(St )?[A-Z][a-z]+"; meaning = parish }
    ∷ record { text = codes "in"; meaning = word (codes "in") }
    ∷ record { text = codes "and"; meaning = word (codes "and") }
    ∷ []

unfoldable pub house_patterns : List Expression
house_patterns = map (λ p. p.meaning) house
