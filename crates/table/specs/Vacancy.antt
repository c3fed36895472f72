-- Cells that no production claims. Document 01, "Sets and table": such a cell is 255.
use Rattle.std.specs.Prelude.{◌≡◌, List, ℕ, ◌<◌, length, get_or}

-- so many cells, and none of them is claimed
pub record Vacancy (n : ℕ) (cells : List ℕ) : Type 0 where
  pub sized : length cells ≡ n
  pub blank : (i : ℕ) → i < n → get_or cells i 0 ≡ 255
