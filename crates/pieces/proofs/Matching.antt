-- Each piece is matched by its pattern, a line has no more pieces than bytes, and what an answer names lies in it.
use Rattle.std.specs.Prelude.{Err}
use mathlib.Core.Path.{◌≡◌, subst}
use mathlib.Core.List.{List, ◌∷◌}
use mathlib.Core.Option.{some}
use Prim.Native.Nat.{ℕ, zero, suc, ◌+◌, ◌≤◌, ◌<◌}
use native.Mathlib.Omega.{arith}
use lib.ListN.{length, take, get_elem?, length-drop}
use Rattle.pieces.specs.Cut.{Ending}
use Rattle.pieces.specs.declared.Stuck.TheVariants.{NoRoom}
use Rattle.answers.specs.Answers.{done, stop}
use Rattle.pieces.specs.Cut.{Piece, piece, Cut, end_of_line, space_dropped, token_cut, no_token_starts, no_room, answer_of}

module _ {M : ℕ → List ℕ → Type 0} where
  -- what a piece's number says of its bytes
  pub cut_matches : {room place : ℕ} {w : List ℕ} {pieces : List Piece} {ending : Ending}
      → Cut M room place w pieces ending
      → (i : ℕ) (p : Piece)
      → get_elem? pieces i ≡ some p
      → M p.number p.bytes
  cut_matches end_of_line i p at = let bad : ◌≡◌ {A = ℕ} 0 1 = cc in absurd (omega arith)
  cut_matches (no_token_starts no_space none) i p at = let bad : ◌≡◌ {A = ℕ} 0 1 = cc in absurd (omega arith)
  cut_matches (no_room no_space t) i p at = let bad : ◌≡◌ {A = ℕ} 0 1 = cc in absurd (omega arith)
  cut_matches (space_dropped cut) i p at = cut_matches cut i p at
  cut_matches (token_cut {place = place} {b} {k} {n} {w} no_space t cut) zero p at =
      let same : piece k place (take n (b ∷ w)) ≡ p = cc in
      subst (λ (q : Piece). M q.number q.bytes) same t.matches
  cut_matches (token_cut no_space t cut) (suc i) p at = cut_matches cut i p at

  -- where room is lacking, the line has more bytes than there is room for tokens
  pub room_lacking : {room place q : ℕ} {w : List ℕ} {pieces : List Piece}
      → Cut M room place w pieces (Err (NoRoom q))
      → room < length w
  room_lacking (space_dropped cut) = omega (arith, room_lacking cut)
  room_lacking (token_cut {b = b} {n = n} {w = w} no_space t cut) =
      omega (arith, room_lacking cut, length-drop n (b ∷ w), t.some_byte)
  room_lacking (no_room no_space t) = omega arith

  -- a line has no more pieces than bytes
  pub pieces_few : {room place : ℕ} {w : List ℕ} {pieces : List Piece} {ending : Ending}
      → Cut M room place w pieces ending
      → length pieces ≤ length w
  pieces_few end_of_line = omega arith
  pieces_few (space_dropped cut) = omega (arith, pieces_few cut)
  pieces_few (token_cut {b = b} {n = n} {w = w} no_space t cut) =
      omega (arith, pieces_few cut, length-drop n (b ∷ w), t.some_byte, t.within)
  pieces_few (no_token_starts no_space none) = omega arith
  pieces_few (no_room no_space t) = omega arith

  -- and the place that the answer names lies in it, or at its end
  pub place_inside : {room place : ℕ} {w : List ℕ} {pieces : List Piece} {ending : Ending}
      → Cut M room place w pieces ending
      → (n : ℕ)
      → (answer_of ending n).place ≤ place + length w
  unfolding answer_of done stop
  place_inside end_of_line n = omega arith
  place_inside (space_dropped cut) n = omega (arith, place_inside cut n)
  place_inside (token_cut {b = b} {n = m} {w = w} no_space t cut) n =
      omega (arith, place_inside cut n, length-drop m (b ∷ w), t.within)
  place_inside (no_token_starts no_space none) n = omega arith
  place_inside (no_room no_space t) n = omega arith
