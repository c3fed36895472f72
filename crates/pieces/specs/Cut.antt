-- A line cut into pieces, over any meaning of the patterns. Document 02, W3: "The longest match wins, and among equals
-- the lowest pattern", "a space where a token would start is dropped". Definitions only.
use Rattle.std.specs.Prelude.{◌≢◌, List, [], ◌∷◌, map, ℕ, zero, suc, ◌+◌, ◌≤◌, ◌<◌, length, take, drop}
use Rattle.std.specs.Prelude.{⊤, Result, Ok, Err}
use Rattle.sets.specs.Calls.{no_set}
use Rattle.answers.specs.declared.Answer.{Answer}
use Rattle.answers.specs.Answers.{done, stop}
use Rattle.answers.specs.Refusals.{no_token, room, token_room}
use Rattle.pieces.specs.declared.Stuck.{Stuck}
use Rattle.pieces.specs.declared.Stuck.TheVariants.{NoToken, NoRoom}

-- the byte that is dropped where a token would start
abbrev pub space : ℕ
space = 32

-- how a cut ends: at the end of the line, or stuck where a token would start
abbrev pub Ending : Type 0
Ending = Result ⊤ Stuck

-- a token of the line: its pattern's number, the place of its first byte, its bytes
pub record Piece : Type 0 where
  pub number : ℕ
  pub place : ℕ
  pub bytes : List ℕ

abbrev pub piece : ℕ → ℕ → List ℕ → Piece
piece number place bytes = record { number = number; place = place; bytes = bytes }

-- the place behind its last byte
abbrev pub behind : Piece → ℕ
behind p = p.place + length p.bytes

unfoldable pub numbers_of : List Piece → List ℕ
numbers_of pieces = map (λ p. p.number) pieces

unfoldable pub ends_of : List Piece → List ℕ
ends_of pieces = map (λ p. behind p) pieces

-- M k u: pattern k matches the string u
module _ (M : ℕ → List ℕ → Type 0) where
  -- the token that w begins with: n bytes, of pattern k
  pub record TokenAt (w : List ℕ) (k n : ℕ) : Type 0 where
    pub some_byte : 0 < n
    pub within : n ≤ length w
    pub matches : M k (take n w)
    -- no pattern matches a longer beginning
    pub longest : (j m : ℕ) → n < m → m ≤ length w → M j (take m w) → ⊥
    -- no lower pattern matches this one
    pub lowest : (j : ℕ) → j < k → M j (take n w) → ⊥

  -- no pattern matches a beginning of w that has a byte
  pub record NoTokenAt (w : List ℕ) : Type 0 where
    pub none : (k n : ℕ) → 0 < n → n ≤ length w → M k (take n w) → ⊥

  -- what is left of the line from `place` on, w, cut with room for so many tokens
  pub data Cut : (room place : ℕ) → (w : List ℕ) → List Piece → Ending → Type 0 where
    end_of_line : {room place : ℕ} → Cut room place [] [] (Ok tt)
    space_dropped : {room place : ℕ} {w : List ℕ} {pieces : List Piece} {ending : Ending}
        → Cut room (suc place) w pieces ending
        → Cut room place (space ∷ w) pieces ending
    token_cut : {room place b k n : ℕ} {w : List ℕ} {pieces : List Piece} {ending : Ending}
        → b ≢ space
        → TokenAt (b ∷ w) k n
        → Cut room (place + n) (drop n (b ∷ w)) pieces ending
        → Cut (suc room) place (b ∷ w) (piece k place (take n (b ∷ w)) ∷ pieces) ending
    no_token_starts : {room place b : ℕ} {w : List ℕ}
        → b ≢ space
        → NoTokenAt (b ∷ w)
        → Cut room place (b ∷ w) [] (Err (NoToken place))
    no_room : {place b k n : ℕ} {w : List ℕ}
        → b ≢ space
        → TokenAt (b ∷ w) k n
        → Cut zero place (b ∷ w) [] (Err (NoRoom place))

-- what is answered after so many tokens
unfoldable pub answer_of : Ending → ℕ → Answer
answer_of (Ok tt) tokens = done tokens
answer_of (Err (NoToken place)) tokens = stop no_token place 0 tokens no_set
answer_of (Err (NoRoom place)) tokens = stop room place token_room tokens no_set
