-- The rows as they are filled, cell by cell. Working definitions, which no public contract cites.
use Rattle.std.specs.Prelude.{◌≡◌, cond, List, ℕ, suc, ◌+◌, ◌*◌, ◌≤◌, ◌<◌, ltb, length, get_or}
use Rattle.sets.specs.Sets.{Exactly}
use Rattle.sets.specs.Words.{places}
use Rattle.answers.specs.Limits.{most_patterns, point_words, byte_values, row_cells}
use Rattle.moves.specs.Tables.{set_of, NextPoint}
use Rattle.states.specs.declared.found.States.{States}
use Rattle.states.specs.declared.tables.Tables.{Tables}
use Rattle.states.specs.Machine.{no_cell, token_of}
use Rattle.states.specs.Sets.{Numbered}

-- the cell of an end, if it is a pattern's
unfoldable pub end_cell : ℕ → ℕ
end_cell end = cond (ltb end most_patterns) end no_cell

-- the number of what comes after set number i by byte b
pub record Cell (given : Tables) (states : States) (i b r : ℕ) : Type 0 where
  pub points : ℕ
  pub exact : Exactly (places point_words) points
      (NextPoint given.readers.now given.follow.now (set_of states.sets i) b)
  pub number : Numbered states.sets states.count points r

-- the cells from one place up to another hold a value, and the others stay
pub record CellsSpread (before : List ℕ) (from to value : ℕ) (after : List ℕ) : Type 0 where
  pub long : length after ≡ length before
  pub there : (k : ℕ) → from ≤ k → k < to → get_or after k 0 ≡ value
  pub before_it : (k : ℕ) → k < from → get_or after k 0 ≡ get_or before k 0
  pub behind_it : (k : ℕ) → to ≤ k → get_or after k 0 ≡ get_or before k 0

-- the first t cells are right, and the others as they were
pub record Filled (given : Tables) (states : States) (before : List ℕ) (t : ℕ) (after : List ℕ) : Type 0 where
  pub long : length after ≡ length before
  pub next : (i b : ℕ) → b < byte_values → i * row_cells + b < t
      → Cell given states i b (get_or after (i * row_cells + b) 0)
  pub token : (i : ℕ) → i * row_cells + byte_values < t
      → get_or after (i * row_cells + byte_values) 0 ≡ token_of (set_of states.sets i)
  pub rest : (k : ℕ) → t ≤ k → get_or after k 0 ≡ get_or before k 0

-- one row more
pub record RowFilled (given : Tables) (states : States) (i : ℕ) (before after : List ℕ) : Type 0 where
  pub long : length after ≡ length before
  pub row : (start : List ℕ)
      → Filled given states start (i * row_cells) before
      → Filled given states start (suc i * row_cells) after
