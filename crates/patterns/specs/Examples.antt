-- Worked examples: lists of patterns and what is told of each. Document 02, W3.
use Rattle.std.specs.Prelude.{List, [], ◌∷◌, ◌++◌, ℕ, ◌-◌, ◌^◌, replicate}
use Rattle.answers.specs.declared.Answer.{Answer}
use Rattle.answers.specs.Answers.{done, refusal}
use Rattle.answers.specs.Limits.{most_patterns, most_positions}
use Rattle.answers.specs.Refusals.{limit, pattern}
use Rattle.pattern.specs.House.{codes}

-- the bytes and lengths lent, and the answer
pub record Example : Type 0 where
  pub patterns : List ℕ
  pub lengths : List ℕ
  pub answer : Answer

abbrev told : List ℕ → List ℕ → Answer → Example
told patterns lengths answer = record { patterns = patterns; lengths = lengths; answer = answer }

-- the house patterns one behind the other, and their lengths
unfoldable pub house_bytes : List ℕ
house_bytes = codes "restore(St )?[A-Z][a-z]+inand"

unfoldable pub house_lengths : List ℕ
house_lengths = 7 ∷ 17 ∷ 2 ∷ 3 ∷ []

-- so many times `a`
abbrev some_a : ℕ → List ℕ
some_a n = replicate n 97

-- no patterns; the house patterns; the lowest-numbered bad one; bytes left over; lengths past the end of the bytes; too
-- many patterns, told before a bad one, and too many positions, told behind it
unfoldable pub examples : List Example
examples =
    told [] [] (done 0)
    ∷ told house_bytes house_lengths (done 0)
    ∷ told (codes "ab*(") (1 ∷ 2 ∷ 1 ∷ []) (refusal pattern 2 1)
    ∷ told (codes "a(b*") (1 ∷ 1 ∷ 2 ∷ []) (refusal pattern 1 1)
    ∷ told (codes "a(") (1 ∷ []) (done 0)
    ∷ told (codes "abcde") (3 ∷ 9 ∷ []) (done 0)
    ∷ told (codes "abcde") (3 ∷ 9 ∷ 1 ∷ []) (refusal pattern 0 2)
    ∷ told (codes "ab") ((2 ^ 64 - 1) ∷ 1 ∷ []) (refusal pattern 0 1)
    ∷ told (replicate 62 40) (replicate 62 1) (refusal pattern 1 0)
    ∷ told (some_a 62) (replicate 62 1) (done 0)
    ∷ told (some_a 63) (replicate 63 1) (refusal limit most_patterns 0)
    ∷ told (replicate 63 40) (replicate 63 1) (refusal limit most_patterns 0)
    ∷ told (some_a 256) (100 ∷ 156 ∷ []) (done 0)
    ∷ told (some_a 257) (100 ∷ 157 ∷ []) (refusal limit most_positions 0)
    ∷ told (some_a 257 ++ codes "c*") (257 ∷ 2 ∷ []) (refusal pattern 2 1)
    ∷ []
