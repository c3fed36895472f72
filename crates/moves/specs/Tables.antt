-- The two tables of a list of patterns, and where a set of points leads by a byte. A set of points is a number: its
-- places below `most_positions` are positions, those from there on the ends of patterns. Document 02, W3.
use Rattle.std.specs.Prelude.{◌≡◌, true, List, ℕ, ◌*◌, length}
use Rattle.sets.specs.Sets.{member, Exactly}
use Rattle.sets.specs.Words.{places, AreWords}
use Rattle.points.specs.Points.{points_at}
use Rattle.answers.specs.Limits.{most_positions, position_words, point_words}

-- the positions that read byte b: row b of the first table
unfoldable pub readers_of : List ℕ → ℕ → ℕ
readers_of readers b = points_at readers (b * position_words) position_words

-- the points that can come after position p: row p of the second
unfoldable pub follow_of : List ℕ → ℕ → ℕ
follow_of follow p = points_at follow (p * point_words) point_words

-- the points that can come first: the row behind those of the positions
unfoldable pub first_of : List ℕ → ℕ
first_of follow = follow_of follow most_positions

-- set number i of a slice of such sets
unfoldable pub set_of : List ℕ → ℕ → ℕ
set_of sets i = points_at sets (i * point_words) point_words

-- by byte b point q comes after x: it can come after a position of x that reads b
pub record NextPoint (readers follow : List ℕ) (x b q : ℕ) : Type 0 where
  pub position : ℕ
  pub there : member position x ≡ true
  pub reads : member position (readers_of readers b) ≡ true
  pub leads : member q (follow_of follow position) ≡ true

-- five words hold the points that come after set number i by byte b
pub record NextWords (sets : List ℕ) (i : ℕ) (readers : List ℕ) (b : ℕ) (follow after : List ℕ) : Type 0 where
  pub long : length after ≡ point_words
  pub words : AreWords after
  pub exact : Exactly (places point_words) (set_of after 0) (NextPoint readers follow (set_of sets i) b)
