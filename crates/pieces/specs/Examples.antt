-- A line and a machine of one row, for the examples on the page of results.
use Rattle.std.specs.Prelude.{List, [], ◌∷◌, ◌++◌, ℕ, replicate}
use Rattle.answers.specs.Limits.{byte_values}

-- " ab c"
abbrev pub line : List ℕ
line = 32 ∷ 97 ∷ 98 ∷ 32 ∷ 99 ∷ []

-- one row: every byte leads to this next row, and the token
abbrev pub one_row : (next token : ℕ) → List ℕ
one_row next token = replicate byte_values next ++ (token ∷ [])
