-- The machine that two tables make: which sets of points are its states, and the 16-bit cells of their rows.
-- Document 02, W3 ("numbered as found").
use Rattle.std.specs.Prelude.{◌≡◌, cond, ◌≢◌, List, [], ◌∷◌, ◌++◌, map, ℕ, zero, suc, ◌+◌, take, drop}
use Rattle.std.proofs.Math.Option.{Option, some, none}
use Rattle.sets.specs.Sets.{member, Exactly}
use Rattle.sets.specs.Words.{places}
use Rattle.answers.specs.Limits.{most_patterns, most_positions, point_words, byte_values}
use Rattle.numbering.specs.Numbering.{Automaton}
use Rattle.moves.specs.Tables.{first_of, NextPoint}

-- the start is the set of the points that can come first, if there are any
pub record Started (follow : List ℕ) (x : ℕ) : Type 0 where
  pub first : x ≡ first_of follow
  pub nonempty : x ≢ 0

-- byte b leads from x to the set of the points that come after, if there are any
pub record TableMove (readers follow : List ℕ) (x b y : ℕ) : Type 0 where
  pub exact : Exactly (places point_words) y (NextPoint readers follow x b)
  pub nonempty : y ≢ 0

abbrev pub tables : List ℕ → List ℕ → Automaton ℕ
tables readers follow =
    record {
      Same = λ x y. x ≡ y;
      Start = Started follow;
      Moves = TableMove readers follow;
      columns = byte_values;
    }

-- what a cell holds where nothing comes after, and where no pattern ends
abbrev pub no_cell : ℕ
no_cell = 65535

unfoldable pub cell_of : Option ℕ → ℕ
cell_of none = no_cell
cell_of (some j) = j

-- the lowest of the n patterns from k on whose end is in the set
unfoldable pub lowest_end : ℕ → ℕ → ℕ → ℕ
lowest_end x k zero = no_cell
lowest_end x k (suc n) = cond (member (most_positions + k) x) k (lowest_end x (suc k) n)

unfoldable pub token_of : ℕ → ℕ
token_of x = lowest_end x 0 most_patterns

-- for each state the number of the next one by each byte, and behind these the state's token
unfoldable pub rows_of : List ℕ → List (Option ℕ) → List ℕ
rows_of [] cells = []
rows_of (x ∷ states) cells =
    map cell_of (take byte_values cells) ++ (token_of x ∷ rows_of states (drop byte_values cells))
