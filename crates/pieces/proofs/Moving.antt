-- What is done at a place of the line, over any meaning: from what the longest match is, and to what is left of the cut.
use mathlib.Core.Path.{◌≡◌, sym, ap, subst}
use mathlib.Core.List.{List, [], ◌∷◌}
use mathlib.Core.Logic.{◌≢◌}
use Rattle.std.specs.Prelude.{Option, Some, None, Ok, Err}
use Prim.Native.Nat.{ℕ, suc, ◌+◌, ◌-◌, ◌≤◌, ◌<◌}
use native.Mathlib.Omega.{arith}
use lib.ListN.{length, take, drop, get_or, length-drop, drop_of_length-le}
use lib.Seq.{drop-cons, drop-drop}
use Rattle.pieces.specs.Cut.{Ending}
use Rattle.pieces.specs.declared.Stuck.{Stuck}
use Rattle.pieces.specs.declared.Stuck.TheVariants as stuck
use Rattle.pieces.specs.declared.Move.TheVariants.{Skip, Take}
use Rattle.pieces.specs.Cut.{space, Piece, piece, TokenAt, NoTokenAt, Cut, end_of_line, space_dropped, token_cut, no_token_starts, no_room}
use Rattle.pieces.specs.Moves.{Starts, Matched, token, nothing, DoneAt, skips, takes, finds_nothing, lacks_room}

-- what is left of the line where a byte stands
left_is : (line : List ℕ) (at : ℕ) → at < length line → drop at line ≡ get_or line at 0 ∷ drop (suc at) line
left_is line at inside = drop-cons line at 0 inside

-- the piece that is taken from `at` up to `end`
abbrev pub taken : List ℕ → ℕ → ℕ → ℕ → Piece
taken line at k end = piece k at (take (end - at) (drop at line))

module _ {M : ℕ → List ℕ → Type 0} where
  -- a match that is a token is the token
  matched_token : {w : List ℕ} {from k end : ℕ} {m : Option (ℕ × ℕ)}
      → Matched M w from m
      → m ≡ Some (k, end)
      → (n : ℕ) × (end ≡ from + n) × TokenAt M w k n
  matched_token {w} {from} {k} {end} (token {k = j} {n = n} t) e =
      let both : ◌≡◌ {A = ℕ × ℕ} (j, from + n) (k, end) = cc in
      let same : j ≡ k = ap (λ (p : ℕ × ℕ). p.0) both in
      let place : end ≡ from + n = sym (ap (λ (p : ℕ × ℕ). p.1) both) in
      (n, place, subst (λ (i : ℕ). TokenAt M w i n) same t)
  matched_token (nothing t) e = let bad : ◌≡◌ {A = ℕ} 0 1 = cc in absurd (omega arith)

  -- and one that is nothing says that there is none
  matched_nothing : {w : List ℕ} {from : ℕ} {m : Option (ℕ × ℕ)} → Matched M w from m → m ≡ None → NoTokenAt M w
  matched_nothing (token t) e = let bad : ◌≡◌ {A = ℕ} 0 1 = cc in absurd (omega arith)
  matched_nothing (nothing t) e = t

  module _ {line : List ℕ} {at : ℕ} (starts : Starts line at) {m : Option (ℕ × ℕ)} (matched : Matched M (drop at line) at m) where
    pub moves_nothing : {room : ℕ} → m ≡ None → DoneAt M line at room (Err (stuck.NoToken at))
    moves_nothing e = finds_nothing starts (matched_nothing matched e)

    pub moves_room : {room k end : ℕ} → m ≡ Some (k, end) → room ≡ 0 → DoneAt M line at room (Err (stuck.NoRoom at))
    moves_room e full =
        subst (λ (room : ℕ). DoneAt M line at room (Err (stuck.NoRoom at))) (sym full)
        (lacks_room starts (matched_token matched e).2)

    pub moves_take : {room k end : ℕ} → m ≡ Some (k, end) → room ≢ 0 → DoneAt M line at room (Ok (Take k end))
    moves_take {room} {k} e some =
        let t = matched_token matched e in
        subst (λ (end : ℕ). DoneAt M line at room (Ok (Take k end))) (sym t.1) (takes starts t.2 (omega arith))

  -- the end of the line ends the cut
  pub end_cuts : (line : List ℕ) {at room : ℕ} → length line ≤ at → Cut M room at (drop at line) [] (Ok tt)
  end_cuts line past = rw (drop_of_length-le line past) end_of_line

  -- and so does a place where it is stuck
  pub stop_cuts : {line : List ℕ} {at room : ℕ} {s : Stuck}
      → DoneAt M line at room (Err s)
      → Cut M room at (drop at line) [] (Err s)
  stop_cuts {line} {at} (finds_nothing starts none) =
      rw (left_is line at starts.inside) (no_token_starts starts.no_space (rw (left_is line at starts.inside) at none))
  stop_cuts {line} {at} (lacks_room starts t) =
      rw (left_is line at starts.inside) (no_room starts.no_space (rw (left_is line at starts.inside) at t))

  -- a space is dropped
  pub skip_cuts : {line : List ℕ} {at room : ℕ} {rest : List Piece} {ending : Ending}
      → DoneAt M line at room (Ok Skip)
      → Cut M room (suc at) (drop (suc at) line) rest ending
      → Cut M room at (drop at line) rest ending
  skip_cuts {line} {at} (skips inside is_space) cut = rw (left_is line at inside, is_space) (space_dropped cut)

  -- a token is cut off
  cut_first : {room place b k n : ℕ} {w v : List ℕ} {rest : List Piece} {ending : Ending}
      → w ≡ b ∷ v
      → b ≢ space
      → TokenAt M w k n
      → Cut M room (place + n) (drop n w) rest ending
      → Cut M (suc room) place w (piece k place (take n w) ∷ rest) ending
  cut_first {room} {place} {b} {k} {n} {rest = rest} {ending} e no_space t cut =
      subst
      (λ (w : List ℕ).
      TokenAt M w k n
      → Cut M room (place + n) (drop n w) rest ending
      → Cut M (suc room) place w (piece k place (take n w) ∷ rest) ending)
      (sym e) (λ t cut. token_cut no_space t cut) t cut

  pub take_cuts : {line : List ℕ} {at room k end : ℕ} {rest : List Piece} {ending : Ending}
      → DoneAt M line at room (Ok (Take k end))
      → Cut M (room - 1) end (drop end line) rest ending
      → Cut M room at (drop at line) (taken line at k end ∷ rest) ending
  take_cuts {line} {at} {room} {rest = rest} {ending} (takes {k = k} {n = n} starts t some) cut =
      let size : at + n - at ≡ n = omega arith in
      let more : suc (room - 1) ≡ room = omega arith in
      subst (λ (i : ℕ). Cut M i at (drop at line) (taken line at k (at + n) ∷ rest) ending) more
      (rw size (cut_first (left_is line at starts.inside) starts.no_space t (rw drop-drop cut)))

  pub skip_inside : {line : List ℕ} {at room : ℕ} → DoneAt M line at room (Ok Skip) → at < length line
  skip_inside (skips inside is_space) = inside

  pub take_inside : {line : List ℕ} {at room k end : ℕ}
      → DoneAt M line at room (Ok (Take k end))
      → (at < end) × (end ≤ length line) × (0 < room)
  take_inside {line} {at} (takes starts t some) =
      (omega (arith, t.some_byte), omega (arith, t.within, length-drop at line), some)
