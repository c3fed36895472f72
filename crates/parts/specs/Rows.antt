-- Sets kept one behind the other in a slice, and what is added to each. Working definitions, which no public contract
-- of a crate above cites.
use Rattle.std.specs.Prelude.{◌≡◌, true, ◌⊎◌, List, ℕ, ◌+◌, ◌*◌, ◌≤◌, length}
use Rattle.sets.specs.Sets.{member}
use Rattle.points.specs.Points.{points_at}

-- the set `after` has the members of `before` and the places of which P holds
pub record Grown (before after : ℕ) (P : ℕ → Type 0) : Type 0 where
  pub kept : (k : ℕ) → member k before ≡ true → member k after ≡ true
  pub new : (k : ℕ) → P k → member k after ≡ true
  pub because : (k : ℕ) → member k after ≡ true → (member k before ≡ true) ⊎ P k

-- set number i of a slice whose sets have n words each
abbrev pub row_at : List ℕ → ℕ → ℕ → ℕ
row_at table n i = points_at table (i * n) n

-- each set number i that lies in the slice has grown by the places of which P i holds
pub record Rows (n : ℕ) (before after : List ℕ) (P : ℕ → ℕ → Type 0) : Type 0 where
  pub long : length after ≡ length before
  pub grown : (i : ℕ) → i * n + n ≤ length before → Grown (row_at before n i) (row_at after n i) (P i)
