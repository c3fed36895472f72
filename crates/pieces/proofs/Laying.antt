-- Where the pieces stand in the line, and where a cut ends.
use Rattle.std.specs.Prelude.{Ok}
use mathlib.Core.Path.{◌≡◌, refl, sym, ap, subst, ◌∙◌}
use mathlib.Core.List.{List, [], ◌∷◌, ◌++◌, append_assoc, append-nil}
use Prim.Native.Nat.{ℕ, suc, ◌+◌}
use native.Mathlib.Nat.{add-zero}
use native.Mathlib.Omega.{arith}
use lib.ListN.{length, take, length-append, take-append-drop}
use lib.Seq.{length-take-le}
use Rattle.pieces.specs.Cut.{Ending}
use Rattle.pieces.specs.Cut.{space, Piece, piece, Cut, end_of_line, space_dropped, token_cut, no_token_starts, no_room}
use Rattle.pieces.specs.Laid.{LaidOut, last_spaces, next_piece, Ends, nothing_left, no_token_there, no_room_left, CutStopped}

-- one space more in front
laid_space : {place : ℕ} {pieces : List Piece} {w : List ℕ} → LaidOut (suc place) pieces w → LaidOut place pieces (space ∷ w)
laid_space (last_spaces n) = last_spaces (suc n)
laid_space {place} (next_piece n p at rest) =
    let at' : p.place ≡ place + suc n = omega (arith, at) in next_piece (suc n) p at' rest

-- one piece more in front
laid_piece : (place k : ℕ) (bytes : List ℕ) {pieces : List Piece} {w : List ℕ}
    → LaidOut (place + length bytes) pieces w
    → LaidOut place (piece k place bytes ∷ pieces) (bytes ++ w)
laid_piece place k bytes rest = next_piece 0 (piece k place bytes) (sym (add-zero place)) rest

-- why it ends, with room and place told in another way
ends_at : {M : ℕ → List ℕ → Type 0} {room room' q q' : ℕ} {w : List ℕ} {ending : Ending}
    → Ends M room w q ending
    → room ≡ room'
    → q ≡ q'
    → Ends M room' w q' ending
ends_at {M} {room' = room'} {q} {w = w} {ending} ends same_room same_place =
    subst (λ (i : ℕ). Ends M room' w i ending) same_place (subst (λ (i : ℕ). Ends M i w q ending) same_room ends)

module _ {M : ℕ → List ℕ → Type 0} where
  -- a cut that ends at once
  stopped_here : {room place : ℕ} {w : List ℕ} {ending : Ending} → Ends M room w place ending → CutStopped M room place w [] ending
  stopped_here {room} {place} {w} ends =
      record {
        before = [];
        left = w;
        split = refl;
        laid = last_spaces 0;
        fits = omega arith;
        ends = ends_at ends (omega arith) (sym (add-zero place));
      }

  -- what is cut is laid out, and where the cut ends is told
  pub cut_stops : {room place : ℕ} {w : List ℕ} {pieces : List Piece} {ending : Ending}
      → Cut M room place w pieces ending
      → CutStopped M room place w pieces ending
  cut_stops end_of_line = stopped_here nothing_left
  cut_stops (no_token_starts no_space none) = stopped_here (no_token_there no_space none)
  cut_stops (no_room no_space t) = stopped_here (no_room_left no_space t)
  cut_stops (space_dropped {place = place} cut) =
      let rest = cut_stops cut in
      record {
        before = space ∷ rest.before;
        left = rest.left;
        split = ap (λ (v : List ℕ). space ∷ v) rest.split;
        laid = laid_space rest.laid;
        fits = rest.fits;
        ends = ends_at rest.ends refl (omega arith);
      }
  cut_stops (token_cut {room = room} {place} {b} {k} {n} {w} {pieces} no_space t cut) =
      let rest = cut_stops cut in
      let bytes = take n (b ∷ w) in
      let size : length bytes ≡ n = length-take-le n (b ∷ w) t.within in
      let laid : LaidOut (place + length bytes) pieces rest.before = rw size rest.laid in
      let split : b ∷ w ≡ (bytes ++ rest.before) ++ rest.left =
      sym (take-append-drop n (b ∷ w))
      ∙ ap (λ (v : List ℕ). bytes ++ v) rest.split
      ∙ sym (append_assoc bytes rest.before rest.left) in
      record {
        before = bytes ++ rest.before;
        left = rest.left;
        split = split;
        laid = laid_piece place k bytes laid;
        fits = omega (arith, rest.fits);
        ends = ends_at rest.ends (omega arith) (simp length-append (omega (arith, size)));
      }

  whole_left : {room q : ℕ} {left : List ℕ} → Ends M room left q (Ok tt) → left ≡ []
  whole_left nothing_left = refl

  -- a line cut to its end is its pieces and spaces
  pub cut_keeps_all : {room place : ℕ} {w : List ℕ} {pieces : List Piece}
      → Cut M room place w pieces (Ok tt)
      → LaidOut place pieces w
  cut_keeps_all {place = place} {pieces = pieces} cut =
      let stopped = cut_stops cut in
      let all = stopped.split ∙ ap (λ (v : List ℕ). stopped.before ++ v) (whole_left stopped.ends) ∙ append-nil stopped.before in
      subst (λ (v : List ℕ). LaidOut place pieces v) (sym all) stopped.laid
