-- What a part of a pattern tells of its positions, and what it adds to the two tables: for byte b the positions that
-- read it, and for position p the points that can come after it. Working definitions, which no public contract of a
-- crate above cites.
use Rattle.std.specs.Prelude.{◌≡◌, List, ℕ, suc, ◌+◌, ◌≤◌, min}
use Rattle.sets.specs.Sets.{Exactly}
use Rattle.sets.specs.Calls.{Decides}
use Rattle.sets.specs.Words.{places}
use Rattle.points.specs.Points.{points_at}
use Rattle.answers.specs.Limits.{most_positions, position_words, point_words}
use Rattle.pattern.specs.Pattern.{Expression}
use Rattle.pattern.specs.Positions.{size, Null, FirstPosition, LastPosition, FollowPosition, Reads}
use Rattle.parts.specs.declared.Part.{Part}
use Rattle.parts.specs.Rows.{Rows}

-- the set of positions that four words are
abbrev pub positions_in : List ℕ → ℕ
positions_in words = points_at words 0 position_words

-- positions are counted as far as to see that they are too many
abbrev pub capped : ℕ → ℕ
capped n = min n (suc most_positions)

-- of the part r, whose positions are those of x from n on: their count, whether it can be empty, what can come first
-- and last
pub record Told (n : ℕ) (x : Expression) (r : Part) : Type 0 where
  pub count : r.count ≡ capped (n + size x)
  pub empty : Decides r.empty (Null x)
  pub first : n + size x ≤ most_positions
      → Exactly (places position_words) (positions_in r.first) (FirstPosition n x)
  pub last : n + size x ≤ most_positions
      → Exactly (places position_words) (positions_in r.last) (LastPosition n x)

-- the tables have what the positions of x add
pub record Tabled (n : ℕ) (x : Expression) (readers follow readers_after follow_after : List ℕ) : Type 0 where
  pub reads : n + size x ≤ most_positions → Rows position_words readers readers_after (λ b p. Reads n x p b)
  pub follows : n + size x ≤ most_positions → Rows point_words follow follow_after (FollowPosition n x)
