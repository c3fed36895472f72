-- The states of patterns by the patterns' own relations. Document 02, W3: "a state is the set of these positions, and
-- of pattern ends, that can come next", "numbered as found, bytes rising, the empty set none".
use Rattle.std.specs.Prelude.{◌≡◌, true, ◌≢◌, List, ℕ, ◌<◌, length}
use Rattle.std.proofs.Math.Option.{some}
use Rattle.std.proofs.Math.ListN.{get_elem?}
use Rattle.sets.specs.Sets.{member, Exactly}
use Rattle.sets.specs.Words.{places}
use Rattle.answers.specs.Limits.{point_words, byte_values}
use Rattle.numbering.specs.Numbering.{Automaton}
use Rattle.pattern.specs.Pattern.{Expression}
use Rattle.pattern.specs.Positions.{Point, Start, Moved, After}
use Rattle.pattern.specs.Text.{Bytes}
use Rattle.patterns.specs.Calls.{point_at}

-- the point is in the set x
pub record InSet (x : ℕ) (t : Point) : Type 0 where
  pub place : ℕ
  pub point : point_at place ≡ t
  pub there : member place x ≡ true

-- x is the set of the points of which P holds, and there are some
pub record SomePoints (P : Point → Type 0) (x : ℕ) : Type 0 where
  pub exact : Exactly (places point_words) x (λ q. P (point_at q))
  pub nonempty : x ≢ 0

-- it starts with the points that can come first, and byte b leads to those that come after a position that reads b
abbrev pub point_states : List Expression → Automaton ℕ
point_states rs =
    record {
      Same = λ x y. x ≡ y;
      Start = SomePoints (Start rs);
      Moves = λ x b y. SomePoints (Moved rs (InSet x) b) y;
      columns = byte_values;
    }

-- x is the set of the points that can come next once some string of bytes was read, and there are some
abbrev pub AfterSome : List Expression → ℕ → Type 0
AfterSome rs x = (w : List ℕ) × Bytes w × SomePoints (After rs w) x

-- there are more such sets than the limit
pub record ManyAfter (rs : List Expression) (limit : ℕ) : Type 0 where
  pub sets : List ℕ
  pub more : limit < length sets
  pub after : (i x : ℕ) → get_elem? sets i ≡ some x → AfterSome rs x
  -- no two of them equal
  pub distinct : (i j x : ℕ) → get_elem? sets i ≡ some x → get_elem? sets j ≡ some x → i ≡ j
