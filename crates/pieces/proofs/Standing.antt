-- Each piece of a cut stands in the line at the first byte that is no space from the end of the piece before on.
use mathlib.Core.Path.{◌≡◌, refl, sym, ap, ap₂, subst, ◌∙◌}
use mathlib.Core.List.{List, [], ◌∷◌, ◌++◌, append_assoc}
use mathlib.Core.Logic.{◌≢◌}
use mathlib.Core.Option.{Option, some}
use Prim.Native.Nat.{ℕ, zero, suc, ◌+◌, ◌≤◌, ◌<◌}
use native.Mathlib.Decide.{dec_lt}
use native.Mathlib.Omega.{arith}
use lib.ListN.{length, take, drop, get_elem?, get_or, length-append, take-append-drop}
use lib.Seq.{length-take-le, drop_at}
use Rattle.pieces.specs.Cut.{Ending}
use Rattle.pieces.specs.Cut.{space, Piece, piece, behind, ends_of}
use Rattle.pieces.specs.Cut.{TokenAt, Cut, end_of_line, space_dropped, token_cut, no_token_starts, no_room}
use Rattle.pieces.specs.Laid.{FirstByte, StandsIn, end_before}

some_same : {a b : ℕ} → ◌≡◌ {A = Option ℕ} (some a) (some b) → a ≡ b
some_same e = cc

-- the end of piece i
end_of : (pieces : List Piece) (i : ℕ) (p : Piece) → get_elem? pieces i ≡ some p → behind p ≡ get_or (ends_of pieces) i 0
unfolding ends_of
end_of [] i p at = let bad : ◌≡◌ {A = ℕ} 0 1 = cc in absurd (omega arith)
end_of (q ∷ pieces) zero p at = let same : p ≡ q = cc in ap (λ (r : Piece). behind r) same
end_of (q ∷ pieces) (suc i) p at = end_of pieces i p at

get_elem_seam : (xs ys : List ℕ) (y n : ℕ) → n ≡ length xs → get_elem? (xs ++ (y ∷ ys)) n ≡ some y
get_elem_seam [] ys y n e = rw e
get_elem_seam (x ∷ xs) ys y n e = rw e (get_elem_seam xs ys y (length xs) refl)

-- one space more in front
first_earlier : {line : List ℕ} {from start : ℕ}
    → get_elem? line from ≡ some space
    → FirstByte line (suc from) start
    → FirstByte line from start
first_earlier {line} {from} {start} is_space first =
    record {
      order = omega (arith, first.order);
      spaces = λ i behind before. go i behind before (dec_lt from i);
      byte = first.byte;
      at = first.at;
      no_space = first.no_space;
    }
  where
    go : (i : ℕ) → from ≤ i → i < start → Dec (from < i) → get_elem? line i ≡ some space
    go i behind before (yes later) = first.spaces i later before
    go i behind before (no same) = let e : i ≡ from = omega arith in rw e is_space

module _ {M : ℕ → List ℕ → Type 0} where
  -- the piece that is cut off first
  first_stands : {b k n : ℕ} {w : List ℕ} (before : List ℕ) (place : ℕ)
      → place ≡ length before
      → b ≢ space
      → TokenAt M (b ∷ w) k n
      → StandsIn (before ++ (b ∷ w)) place (piece k place (take n (b ∷ w)))
  first_stands {b} {k} {n} {w} before place e no_space t =
      let size : length (take n (b ∷ w)) ≡ n = length-take-le n (b ∷ w) t.within in
      record {
        start =
            record {
              order = omega arith;
              spaces = λ i behind before. absurd (omega arith);
              byte = b;
              at = get_elem_seam before w b place e;
              no_space = no_space;
            };
        some_byte = omega (arith, size, t.some_byte);
        within = simp length-append (omega (arith, size, t.within, e));
        bytes = sym (ap (λ (i : ℕ). take i (drop place (before ++ (b ∷ w)))) size ∙ ap (take n) (drop_at before (b ∷ w) place (sym e)));
      }

  stands : (before : List ℕ) {room place : ℕ} {w : List ℕ} {pieces : List Piece} {ending : Ending}
      → Cut M room place w pieces ending
      → place ≡ length before
      → (i : ℕ) (p : Piece)
      → get_elem? pieces i ≡ some p
      → StandsIn (before ++ w) (get_or (place ∷ ends_of pieces) i 0) p
  unfolding ends_of
  stands before end_of_line e i p at = let bad : ◌≡◌ {A = ℕ} 0 1 = cc in absurd (omega arith)
  stands before (no_token_starts no_space none) e i p at = let bad : ◌≡◌ {A = ℕ} 0 1 = cc in absurd (omega arith)
  stands before (no_room no_space t) e i p at = let bad : ◌≡◌ {A = ℕ} 0 1 = cc in absurd (omega arith)
  stands before (space_dropped {place = place} {w = w} cut) e zero p at =
      let rest = rw append_assoc at (stands (before ++ (space ∷ [])) cut (simp length-append (omega arith)) zero p at) in
      record {
        start = first_earlier (get_elem_seam before w space place e) rest.start;
        some_byte = rest.some_byte;
        within = rest.within;
        bytes = rest.bytes;
      }
  stands before (space_dropped cut) e (suc i) p at =
      rw append_assoc at (stands (before ++ (space ∷ [])) cut (simp length-append (omega arith)) (suc i) p at)
  stands before (token_cut {place = place} {b} {k} {n} {w} no_space t cut) e zero p at =
      let same : piece k place (take n (b ∷ w)) ≡ p = cc in
      subst (λ (q : Piece). StandsIn (before ++ (b ∷ w)) place q) same (first_stands before place e no_space t)
  stands before (token_cut {place = place} {b} {k} {n} {w} {pieces} no_space t cut) e (suc i) p at =
      let bytes = take n (b ∷ w) in
      let size : length bytes ≡ n = length-take-le n (b ∷ w) t.within in
      let from : place + n ≡ behind (piece k place bytes) = omega (arith, size) in
      let all : (before ++ bytes) ++ drop n (b ∷ w) ≡ before ++ (b ∷ w) =
      append_assoc before bytes (drop n (b ∷ w)) ∙ ap (λ (v : List ℕ). before ++ v) (take-append-drop n (b ∷ w)) in
      let rest = stands (before ++ bytes) cut (simp length-append (omega (arith, size))) i p at in
      subst (λ (v : List ℕ). StandsIn v (get_or (behind (piece k place bytes) ∷ ends_of pieces) i 0) p) all
      (subst (λ (q : ℕ). StandsIn ((before ++ bytes) ++ drop n (b ∷ w)) (get_or (q ∷ ends_of pieces) i 0) p) from rest)

  -- piece i of a line
  pub cut_ends : {room : ℕ} {line : List ℕ} {pieces : List Piece} {ending : Ending}
      → Cut M room 0 line pieces ending
      → (i : ℕ) (p : Piece)
      → get_elem? pieces i ≡ some p
      → StandsIn line (end_before pieces i) p
  cut_ends cut i p at = stands [] cut refl i p at

-- the first byte that is no space is one place
first_unique : {line : List ℕ} {from start start' : ℕ} → FirstByte line from start → FirstByte line from start' → start ≡ start'
first_unique {line} {from} {start} {start'} one other = go (dec_lt start start') (dec_lt start' start)
  where
    go : Dec (start < start') → Dec (start' < start) → start ≡ start'
    go (yes less) more = absurd (one.no_space (some_same (sym one.at ∙ other.spaces start one.order less)))
    go (no least) (yes more) = absurd (other.no_space (some_same (sym other.at ∙ one.spaces start' other.order more)))
    go (no least) (no most) = omega arith

-- where a piece stands is told by where it and the one before end
pub stands_unique : {line : List ℕ} {from : ℕ} {p q : Piece}
    → StandsIn line from p
    → StandsIn line from q
    → behind p ≡ behind q
    → (p.place ≡ q.place) × (p.bytes ≡ q.bytes)
stands_unique {line} {p = p} {q} one other ends =
    let start = first_unique one.start other.start in
    let size : length p.bytes ≡ length q.bytes = omega arith in
    (start, one.bytes ∙ ap₂ (λ (n i : ℕ). take n (drop i line)) size start ∙ sym other.bytes)

-- ends tell starts and bytes
pub ends_tell : {M N : ℕ → List ℕ → Type 0} {room room' : ℕ} {line : List ℕ} {pieces pieces' : List Piece} {ending ending' : Ending}
    → Cut M room 0 line pieces ending
    → Cut N room' 0 line pieces' ending'
    → ends_of pieces ≡ ends_of pieces'
    → (i : ℕ) (p q : Piece)
    → get_elem? pieces i ≡ some p
    → get_elem? pieces' i ≡ some q
    → (p.place ≡ q.place) × (p.bytes ≡ q.bytes)
ends_tell {line = line} {pieces} {pieces'} cut cut' same i p q at at' =
    let from : end_before pieces i ≡ end_before pieces' i = ap (λ (v : List ℕ). get_or (0 ∷ v) i 0) same in
    let one = subst (λ (f : ℕ). StandsIn line f p) from (cut_ends cut i p at) in
    stands_unique one (cut_ends cut' i q at') (end_of pieces i p at ∙ ap (λ (v : List ℕ). get_or v i 0) same ∙ sym (end_of pieces' i q at'))
