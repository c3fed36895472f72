-- The first such, or the first that is not such, or the length or nothing: where a search from 0 ends.
-- Document 01 says "first" and "lowest" of places, cells and nonterminals.
use Rattle.std.specs.Prelude.{ℕ, ◌≤◌, ◌<◌, Option, MatchOption}

-- no number below r has P, and r is below count and has P, or is count
pub record Lowest (P : ℕ → Type 0) (count r : ℕ) : Type 0 where
  pub within : r ≤ count
  pub earlier : (i : ℕ) → i < r → ¬ P i
  pub found : r < count → P r

-- every number below r has P, and r is below count and has not P, or is count
pub record FirstFailing (P : ℕ → Type 0) (count r : ℕ) : Type 0 where
  pub within : r ≤ count
  pub earlier : (i : ℕ) → i < r → P i
  pub fails : r < count → ¬ P r

-- r is below count and has P, and no lower number has it
pub record LowestAt (P : ℕ → Type 0) (count r : ℕ) : Type 0 where
  pub inside : r < count
  pub holds : P r
  pub earlier : (i : ℕ) → i < r → ¬ P i

-- the lowest number below count that has P; nothing where none has it
abbrev pub LowestIn : (P : ℕ → Type 0) (count : ℕ) → Option ℕ → Type 0
LowestIn P count r = MatchOption r ((i : ℕ) → i < count → ¬ P i) (LowestAt P count)

-- r is below count and has not P, and every lower number has it
pub record FailingAt (P : ℕ → Type 0) (count r : ℕ) : Type 0 where
  pub inside : r < count
  pub fails : ¬ P r
  pub earlier : (i : ℕ) → i < r → P i

-- the lowest number below count that has not P; nothing where all have it
abbrev pub FailingIn : (P : ℕ → Type 0) (count : ℕ) → Option ℕ → Type 0
FailingIn P count r = MatchOption r ((i : ℕ) → i < count → P i) (FailingAt P count)
