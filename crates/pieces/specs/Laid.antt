-- Where the pieces of a line stand in it. Definitions only.
use Rattle.std.specs.Prelude.{◌≡◌, ◌≢◌, List, [], ◌∷◌, ◌++◌, ℕ, ◌+◌, ◌-◌, ◌≤◌, ◌<◌, length, take, drop, get_or, replicate}
use Rattle.std.specs.Prelude.{Ok, Err}
use Rattle.std.proofs.Math.Option.{some}
use Rattle.std.proofs.Math.ListN.{get_elem?}
use Rattle.pieces.specs.declared.Stuck.TheVariants.{NoToken, NoRoom}
use Rattle.pieces.specs.Cut.{space, Ending, Piece, behind, ends_of, TokenAt, NoTokenAt}

-- from `place` on the line is its pieces in order, with nothing but spaces before, between and behind them
pub data LaidOut : (place : ℕ) → List Piece → List ℕ → Type 0 where
  last_spaces : {place : ℕ} (n : ℕ) → LaidOut place [] (replicate n space)
  next_piece : {place : ℕ} (n : ℕ) (p : Piece) {pieces : List Piece} {rest : List ℕ}
      → p.place ≡ place + n
      → LaidOut (behind p) pieces rest
      → LaidOut place (p ∷ pieces) (replicate n space ++ (p.bytes ++ rest))

-- why a cut ends where w is left, at place q, with room for so many tokens more
pub data Ends (M : ℕ → List ℕ → Type 0) : (room : ℕ) → (w : List ℕ) → (q : ℕ) → Ending → Type 0 where
  nothing_left : {room q : ℕ} → Ends M room [] q (Ok tt)
  no_token_there : {room q b : ℕ} {w : List ℕ}
      → b ≢ space
      → NoTokenAt M (b ∷ w)
      → Ends M room (b ∷ w) q (Err (NoToken q))
  no_room_left : {q b k n : ℕ} {w : List ℕ} → b ≢ space → TokenAt M (b ∷ w) k n → Ends M 0 (b ∷ w) q (Err (NoRoom q))

-- what was cut is laid out in front of the place where the cut ends
pub record CutStopped (M : ℕ → List ℕ → Type 0) (room place : ℕ) (w : List ℕ) (pieces : List Piece) (ending : Ending)
    : Type 0 where
  pub before : List ℕ
  pub left : List ℕ
  pub split : w ≡ before ++ left
  pub laid : LaidOut place pieces before
  pub fits : length pieces ≤ room
  pub ends : Ends M (room - length pieces) left (place + length before) ending

-- the first byte of the line that is no space, from place `from` on
pub record FirstByte (line : List ℕ) (from start : ℕ) : Type 0 where
  pub order : from ≤ start
  pub spaces : (i : ℕ) → from ≤ i → i < start → get_elem? line i ≡ some space
  pub byte : ℕ
  pub at : get_elem? line start ≡ some byte
  pub no_space : byte ≢ space

-- the piece starts at the first byte that is no space from place `from` on, and is the line from there to its end
pub record StandsIn (line : List ℕ) (from : ℕ) (p : Piece) : Type 0 where
  pub start : FirstByte line from p.place
  pub some_byte : 0 < length p.bytes
  pub within : behind p ≤ length line
  pub bytes : p.bytes ≡ take (length p.bytes) (drop p.place line)

-- the place behind the piece before piece i, or where the line starts
abbrev pub end_before : List Piece → ℕ → ℕ
end_before pieces i = get_or (0 ∷ ends_of pieces) i 0
