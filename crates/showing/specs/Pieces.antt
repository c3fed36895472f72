-- Input that is cut into pieces, each behind its length of two bytes, low byte first.
use Rattle.std.specs.Prelude.{◌≡◌, List, ℕ, ◌+◌, ◌*◌, min, length, get_or}
use Rattle.showing.specs.declared.pieces.Piece.{Piece}

-- how many bytes the piece at a place has; a byte past the end counts as 0
unfoldable pub size_at : List ℕ → ℕ → ℕ
size_at input at = get_or input at 0 + 256 * get_or input (at + 1) 0

-- the piece at a place stands behind its length, as far as there is input
pub record Cut (input : List ℕ) (at : ℕ) (piece : Piece) : Type 0 where
  pub start : piece.from ≡ min (at + 2) (length input)
  pub end : piece.end ≡ min (piece.from + size_at input at) (length input)
