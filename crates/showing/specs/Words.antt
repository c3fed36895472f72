-- The text of numbers, sets and answers that stand behind a word in a line. Characters are their ASCII codes.
-- Document 01, "The lister and the examples": sets "in 16 lower-case hex digits".
use Rattle.std.specs.Prelude.{List, [], ◌∷◌, ◌++◌, ℕ}
use Prim.Native.Char.{code}
use Prim.Native.String.{String}
use Prim.Native.String as string
use Rattle.sets.specs.Calls.{number}
use Rattle.text.specs.Text.{decimal, hexadecimal}
use Rattle.answers.specs.declared.Answer.{Answer}

-- the codes of a text's characters
abbrev pub codes : String → List ℕ
codes string.[] = []
codes (string.◌∷◌ c text) = code c ∷ codes text

abbrev pub space : ℕ
space = 32

abbrev pub newline : ℕ
newline = 10

-- the texts of a list's elements, one behind the other
unfoldable pub each : {A : Type 0} → (A → List ℕ) → List A → List ℕ
each text [] = []
each text (x ∷ xs) = text x ++ each text xs

-- a text behind a space
abbrev pub spaced : {A : Type 0} → (A → List ℕ) → A → List ℕ
spaced text x = space ∷ text x

-- a number behind a space
unfoldable pub number_text : ℕ → List ℕ
number_text = spaced decimal

abbrev pub numbered : List ℕ → List ℕ
numbered numbers = each number_text numbers

-- a set behind a space, in 16 hex digits
unfoldable pub set_text : ℕ → List ℕ
set_text = spaced hexadecimal

abbrev pub sets_text : List ℕ → List ℕ
sets_text family = each set_text family

-- number, place, detail, steps and the expected set
unfoldable pub answer_text : Answer → List ℕ
answer_text a = numbered (a.number ∷ a.place ∷ a.detail ∷ a.steps ∷ []) ++ set_text (number a.expected)
