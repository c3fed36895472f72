-- What stands where a token would start: working definitions, which only contracts inside the crate cite.
use Rattle.std.specs.Prelude.{◌≡◌, ◌≢◌, List, ℕ, ◌+◌, ◌<◌, length, drop, get_or, Option, Some, None, Result, Ok, Err}
use Rattle.pieces.specs.declared.Stuck.{Stuck}
use Rattle.pieces.specs.declared.Stuck.TheVariants.{NoToken, NoRoom}
use Rattle.pieces.specs.declared.Move.{Move}
use Rattle.pieces.specs.declared.Move.TheVariants.{Skip, Take}
use Rattle.pieces.specs.Cut.{space, TokenAt, NoTokenAt}

-- a byte that is no space stands at place `at`
pub record Starts (line : List ℕ) (at : ℕ) : Type 0 where
  pub inside : at < length line
  pub no_space : get_or line at 0 ≢ space

module _ (M : ℕ → List ℕ → Type 0) where
  -- the token that w begins with, by its number and the place behind it, where w stands at place `from`
  pub data Matched (w : List ℕ) (from : ℕ) : Option (ℕ × ℕ) → Type 0 where
    token : {k n : ℕ} → TokenAt M w k n → Matched w from (Some (k, from + n))
    nothing : NoTokenAt M w → Matched w from None

  -- what is done at place `at` of the line with room for so many tokens
  pub data DoneAt (line : List ℕ) (at : ℕ) : (room : ℕ) → Result Move Stuck → Type 0 where
    skips : {room : ℕ} → at < length line → get_or line at 0 ≡ space → DoneAt line at room (Ok Skip)
    takes : {room k n : ℕ}
        → Starts line at
        → TokenAt M (drop at line) k n
        → 0 < room
        → DoneAt line at room (Ok (Take k (at + n)))
    finds_nothing : {room : ℕ}
        → Starts line at
        → NoTokenAt M (drop at line)
        → DoneAt line at room (Err (NoToken at))
    lacks_room : {k n : ℕ}
        → Starts line at
        → TokenAt M (drop at line) k n
        → DoneAt line at 0 (Err (NoRoom at))
