-- Sets of points kept one behind the other: the list of the first n, one that is sought, and one that is kept. Working
-- definitions, which no public contract cites.
use Rattle.std.specs.Prelude.{◌≡◌, ◌≢◌, List, [], ◌∷◌, ◌++◌, ℕ, zero, suc, ◌≤◌, ◌<◌, length, Option}
use Rattle.answers.specs.Lowest.{LowestAt, LowestIn}
use Rattle.moves.specs.Tables.{first_of, set_of}
use Rattle.states.specs.Machine.{no_cell}

-- the first n sets of a slice
unfoldable pub states_of : List ℕ → ℕ → List ℕ
states_of sets zero = []
states_of sets (suc n) = states_of sets n ++ (set_of sets n ∷ [])

-- a set of words was kept as set number i
pub record Kept (before : List ℕ) (i : ℕ) (next after : List ℕ) : Type 0 where
  pub long : length after ≡ length before
  pub there : set_of after i ≡ set_of next 0
  pub others : (j : ℕ) → j ≢ i → set_of after j ≡ set_of before j

-- the first of the first n sets that is y
abbrev pub Sought : List ℕ → ℕ → ℕ → Option ℕ → Type 0
Sought sets n y = LowestIn (λ j. set_of sets j ≡ y) n

-- where y is among the first n sets, or no cell if it is empty or not there
pub data Numbered (sets : List ℕ) (n y : ℕ) : ℕ → Type 0 where
  nothing : y ≡ 0 → Numbered sets n y no_cell
  not_there : ((j : ℕ) → j < n → set_of sets j ≢ y) → Numbered sets n y no_cell
  numbered : {r : ℕ} → y ≢ 0 → LowestAt (λ j. set_of sets j ≡ y) n r → Numbered sets n y r

-- no set, or what can come first as set 0
pub record Begun (follow sets : List ℕ) (n : ℕ) : Type 0 where
  pub few : n ≤ 1
  pub empty : n ≡ 0 → first_of follow ≡ 0
  pub first : 0 < n → (first_of follow ≢ 0) × (set_of sets 0 ≡ first_of follow)
