-- Where reading from a place of a text ends: behind what was read, or at a place refused. Working definitions.
use Rattle.std.specs.Prelude.{List, ℕ, ◌≤◌, ◌<◌, max, length}

-- a place further on, in the text or at its end
pub record Behind (text : List ℕ) (at next : ℕ) : Type 0 where
  pub moved : at < next
  pub inside : next ≤ length text

-- the place refused, no earlier, and that it is
pub record Unread (text : List ℕ) (at : ℕ) (Stopped : ℕ → Type 0) (place : ℕ) : Type 0 where
  pub moved : at ≤ place
  pub inside : place ≤ max at (length text)
  pub stopped : Stopped place
