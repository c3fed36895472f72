-- Cells written into the front of a buffer: all of them where there is room.
use mathlib.Core.Path.{◌≡◌, ap}
use mathlib.Core.List.{List}
use Prim.Native.Nat.{ℕ, ◌≤◌}
use lib.ListN.{length}
use lib.Seq.{take_all}
use Rattle.answers.specs.Buffers.{over, written}

-- with room for all of them, all are written
pub written_all : (cells buffer : List ℕ) → length cells ≤ length buffer → written cells buffer ≡ over cells buffer
written_all cells buffer fits = ap (λ (front : List ℕ). over front buffer) (take_all (length buffer) cells fits)
