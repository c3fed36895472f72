-- The longest match, byte by byte: what was read so far leads to the row, and the best match so far is its token.
use mathlib.Core.Path.{◌≡◌, refl, sym, ap, subst, ◌∙◌}
use mathlib.Core.List.{List, [], ◌∷◌, ◌++◌, append_assoc}
use Rattle.std.specs.Prelude.{Option, Some, None}
use Prim.Native.Nat.{ℕ, suc, ◌+◌, ◌-◌, ◌≤◌, ◌<◌}
use native.Mathlib.Numerals.{add-one}
use native.Mathlib.Nat.{add-zero}
use native.Mathlib.Omega.{arith}
use lib.ListN.{length, take, drop, get_or, length-append}
use lib.Seq.{drop-cons, take_all, take-append-add}
use Rattle.answers.specs.Limits.{most_patterns, byte_values}
use Rattle.pieces.specs.Cut.{TokenAt}
use Rattle.pieces.specs.Moves.{Matched, token, nothing}
use Rattle.pieces.specs.Rows.{rows_in, cell_at, Walk, here, Says}
use Rattle.pieces.proofs.Walks.{walk_start, walk_more, walk_stuck, says_token}
use Rattle.pieces.proofs.Best.{NoneBeyond, none_at_end, token_kept, none_kept, token_whole}

-- a match: the token's number and the place behind it
abbrev pub Match : Type 0
Match = ℕ × ℕ

-- the longest match, once a row with this token was met at place `at`
pub data Noted (best : Option Match) (number at : ℕ) : Option Match → Type 0 where
  longer : number < most_patterns → Noted best number at (Some (number, at))
  kept : most_patterns ≤ number → Noted best number at best

-- where no longer beginning matches, the longest match stays
matched_kept : {M : ℕ → List ℕ → Type 0} {from : ℕ} {best : Option Match} (u v : List ℕ)
    → Matched M u from best
    → NoneBeyond M u v
    → Matched M (u ++ v) from best
matched_kept u v (token t) beyond = token (token_kept u v t beyond)
matched_kept u v (nothing t) beyond = nothing (none_kept u v t beyond)

-- nothing is said of what is longer than a string that cannot be walked on
stuck_beyond : {cells : List ℕ} {row : ℕ} (b : ℕ) (u v : List ℕ)
    → Walk cells 0 u row
    → rows_in cells ≤ cell_at cells row b
    → NoneBeyond (Says cells) u (b ∷ v)
stuck_beyond {cells} b u v walk outside j m past within says =
    let n = m - suc (length u) in
    let e : m ≡ length u + suc n = omega arith in
    let f : take m (u ++ (b ∷ v)) ≡ u ++ (b ∷ take n v) =
    ap (λ (i : ℕ). take i (u ++ (b ∷ v))) e ∙ take-append-add u (b ∷ v) (suc n) in
    walk_stuck b u (take n v) walk outside (subst (λ (w : List ℕ). Walk cells 0 w says.row) f says.walk)

-- nor of a string whose row has no token
tokenless_beyond : {cells : List ℕ} {row : ℕ} (b : ℕ) (u : List ℕ)
    → Walk cells 0 (u ++ (b ∷ [])) row
    → most_patterns ≤ cell_at cells row byte_values
    → NoneBeyond (Says cells) u (b ∷ [])
tokenless_beyond {cells} b u walk none j m past within says =
    let whole : take m (u ++ (b ∷ [])) ≡ u ++ (b ∷ []) = take_all m (u ++ (b ∷ [])) (simp length-append (omega arith)) in
    let said : j ≡ cell_at cells _ byte_values = says_token walk (subst (λ (w : List ℕ). Says cells j w) whole says) in
    omega (arith, said, says.counts)

-- the longest match once one more byte was read
noted_found : {cells : List ℕ} {row from at : ℕ} {best best' : Option Match} (b : ℕ) (u : List ℕ)
    → Walk cells 0 (u ++ (b ∷ [])) row
    → Matched (Says cells) u from best
    → Noted best (cell_at cells row byte_values) at best'
    → at ≡ from + length (u ++ (b ∷ []))
    → Matched (Says cells) (u ++ (b ∷ [])) from best'
noted_found {cells} {row} {from} b u walk found (longer counts) e =
    let w = u ++ (b ∷ []) in
    let k = cell_at cells row byte_values in
    let whole : TokenAt (Says cells) w k (length w) =
    token_whole w (simp length-append (omega arith)) (record { row = row; walk = walk; token = refl; counts = counts })
    (λ j lower says. omega (arith, says_token walk says)) in
    subst (λ (at : ℕ). Matched (Says cells) w from (Some (k, at))) (sym e) (token whole)
noted_found b u walk found (kept none) e = matched_kept u (b ∷ []) found (tokenless_beyond b u walk none)

-- with no row nothing is said
pub matched_none : {cells : List ℕ} {from : ℕ} (w : List ℕ) → rows_in cells ≡ 0 → Matched (Says cells) w from None
matched_none w no_row =
    nothing (record { none = λ k n some_byte within says. omega (arith, walk_start says.walk) })

-- the bytes read from `from` up to `at`, the row that they lead to, and the longest match among them
pub record Looked (cells line : List ℕ) (from at row : ℕ) (best : Option Match) : Type 0 where
  pub read : List ℕ
  pub split : drop from line ≡ read ++ drop at line
  pub counted : at ≡ from + length read
  pub within : at ≤ length line
  pub walk : Walk cells 0 read row
  pub found : Matched (Says cells) read from best

module _ {cells line : List ℕ} {from : ℕ} where
  -- before the first byte
  pub looked_none : from ≤ length line → 0 < rows_in cells → Looked cells line from from 0 None
  looked_none within some_row =
      record {
        read = [];
        split = refl;
        counted = sym (add-zero from);
        within = within;
        walk = here some_row;
        found = nothing none_at_end;
      }

  module _ {at row : ℕ} {best : Option Match} (looked : Looked cells line from at row best) where
    -- one byte more
    pub looked_more : {next number : ℕ} {best' : Option Match}
        → at < length line
        → get_or line at 0 < byte_values
        → next ≡ cell_at cells row (get_or line at 0)
        → next < rows_in cells
        → number ≡ cell_at cells next byte_values
        → Noted best number (at + 1) best'
        → Looked cells line from (at + 1) next best'
    looked_more {next} {number} {best'} below byte is_next inside is_number noted =
        let b = get_or line at 0 in
        let read = looked.read ++ (b ∷ []) in
        let walk : Walk cells 0 read next =
        rw is_next (walk_more looked.walk byte (rw is_next at inside)) in
        let noted' : Noted best (cell_at cells next byte_values) (at + 1) best' = rw is_number at noted in
        let split : drop from line ≡ read ++ drop (at + 1) line =
        rw (add-one, append_assoc) (looked.split ∙ ap (λ (w : List ℕ). looked.read ++ w) (drop-cons line at 0 below)) in
        let counted : at + 1 ≡ from + length read =
        simp length-append (omega (arith, looked.counted)) in
        record {
          read = read;
          split = split;
          counted = counted;
          within = omega arith;
          walk = walk;
          found = noted_found b looked.read walk looked.found noted' counted;
        }

    -- a cell that names no row: the longest match is known
    pub looked_stuck : at < length line
        → rows_in cells ≤ cell_at cells row (get_or line at 0)
        → Matched (Says cells) (drop from line) from best
    looked_stuck below outside =
        let b = get_or line at 0 in
        let rest = drop (suc at) line in
        rw (looked.split, drop-cons line at 0 below)
        (matched_kept looked.read (b ∷ rest) looked.found (stuck_beyond b looked.read rest looked.walk outside))
