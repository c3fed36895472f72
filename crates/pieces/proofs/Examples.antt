-- The definitions at work on the line " ab c": a machine of one row, whose token is 5, 61 or 62; one that names no row; none at all.
use Rattle.std.specs.Prelude.{Ok, Err}
use mathlib.Core.Path.{◌≡◌, refl, ◌∙◌}
use mathlib.Core.List.{List, [], ◌∷◌}
use mathlib.Core.Logic.{◌≢◌}
use Prim.Native.Nat.{ℕ, zero, suc, ◌+◌, ◌≤◌, ◌<◌}
use native.Mathlib.Omega.{arith}
use lib.Dec.{lit<}
use lib.ListN.{take, replicate, get_or-replicate, get_or-append}
use Rattle.sets.specs.Calls.{no_set}
use Rattle.answers.specs.Answers.{done, stop}
use Rattle.answers.specs.Limits.{most_patterns, byte_values}
use Rattle.answers.specs.Refusals.{no_token, room, token_room}
use Rattle.pieces.specs.declared.Stuck.TheVariants.{NoToken, NoRoom}
use Rattle.pieces.specs.Cut.{space, piece, numbers_of, ends_of, answer_of}
use Rattle.pieces.specs.Cut.{TokenAt, NoTokenAt, end_of_line, space_dropped, token_cut, no_token_starts, no_room}
use Rattle.pieces.specs.Calls.{CutWithOutcome}
use Rattle.pieces.specs.Examples.{line, one_row}
use Rattle.pieces.specs.Rows.{rows_in, cell_at, Walk, here, on, Says}
use Rattle.pieces.proofs.Walks.{walk_start, walk_end, walk_next}

-- what is left of " ab c" behind the space
abbrev left : List ℕ
left = 97 ∷ 98 ∷ 32 ∷ 99 ∷ []

-- by a byte the row leads to itself
round : {k b : ℕ} {u : List ℕ} → b < byte_values → Walk (one_row 0 k) 0 u 0 → Walk (one_row 0 k) 0 (b ∷ u) 0
round {k} {b} {u} byte walk =
    let same : cell_at (one_row 0 k) 0 b ≡ 0 =
    get_or-append (replicate 256 0) (k ∷ []) 0 (0 + b) (omega arith) ∙ get_or-replicate 256 (0 + b) 0 0 (omega arith) in
    let next : Walk (one_row 0 k) (cell_at (one_row 0 k) 0 b) u 0 = rw same walk in
    on {r = 0} (lit< tt) byte next

one_row_walk : (k : ℕ) → Walk (one_row 0 k) 0 left 0
one_row_walk k = round (lit< tt) (round (lit< tt) (round (lit< tt) (round (lit< tt) (here {r = 0} (lit< tt)))))

-- its token is the only one that is said
one_row_token : {next k j : ℕ} {u : List ℕ} → Says (one_row next k) j u → j ≡ k
one_row_token {next} {k} says = go says.row (walk_end says.walk) says.token
  where
    go : {j : ℕ} (row : ℕ) → row < rows_in (one_row next k) → j ≡ cell_at (one_row next k) row byte_values → j ≡ k
    go zero inside token = token
    go (suc row) inside token = absurd (omega arith)

first_is_no_space : ◌≢◌ {A = ℕ} 97 space
first_is_no_space e = omega arith

-- the token is all that is left: a space inside a match is a byte like any other
one_row_cut : (k : ℕ) → k < most_patterns → TokenAt (Says (one_row 0 k)) left k 4
one_row_cut k counts =
    record {
      some_byte = omega arith;
      within = omega arith;
      matches = record { row = 0; walk = one_row_walk k; token = refl; counts = counts };
      longest = λ j m more within says. omega arith;
      lowest = λ j lower says. omega (arith, one_row_token says);
    }

-- a token below 62 is cut
pub token_below_limit : (k : ℕ)
    → k < most_patterns
    → CutWithOutcome (one_row 0 k) line (9 ∷ 9 ∷ []) (7 ∷ 7 ∷ []) (done 1) (k ∷ 9 ∷ []) (5 ∷ 7 ∷ [])
unfolding answer_of numbers_of ends_of
token_below_limit k counts =
    record {
      pieces = piece k 1 left ∷ [];
      ending = Ok tt;
      cut = space_dropped (token_cut first_is_no_space (one_row_cut k counts) end_of_line);
      answered = refl;
      numbers = refl;
      places = refl;
    }

-- with one token cell too few the line is refused where the token starts, and nothing is written
pub no_cell_for_it : (k : ℕ)
    → k < most_patterns
    → CutWithOutcome (one_row 0 k) line [] (7 ∷ []) (stop room 1 token_room 0 no_set) [] (7 ∷ [])
unfolding answer_of numbers_of ends_of
no_cell_for_it k counts =
    record {
      pieces = [];
      ending = Err (NoRoom 1);
      cut = space_dropped (no_room first_is_no_space (one_row_cut k counts));
      answered = refl;
      numbers = refl;
      places = refl;
    }

-- the line is refused at its first byte that is no space
refused_there : {machine : List ℕ}
    → NoTokenAt (Says machine) left
    → CutWithOutcome machine line (9 ∷ []) (7 ∷ []) (stop no_token 1 0 0 no_set) (9 ∷ []) (7 ∷ [])
unfolding answer_of numbers_of ends_of
refused_there none =
    record {
      pieces = [];
      ending = Err (NoToken 1);
      cut = space_dropped (no_token_starts first_is_no_space none);
      answered = refl;
      numbers = refl;
      places = refl;
    }

-- a token from 62 on counts as none
pub token_past_limit : (k : ℕ)
    → most_patterns ≤ k
    → CutWithOutcome (one_row 0 k) line (9 ∷ []) (7 ∷ []) (stop no_token 1 0 0 no_set) (9 ∷ []) (7 ∷ [])
token_past_limit k past =
    refused_there (record { none = λ j n some_byte within says. omega (arith, one_row_token says, says.counts) })

-- so does a next state that names no row
pub no_such_row : CutWithOutcome (one_row 1 5) line (9 ∷ []) (7 ∷ []) (stop no_token 1 0 0 no_set) (9 ∷ []) (7 ∷ [])
no_such_row = refused_there (record { none = λ j n some_byte within says. stuck n some_byte says.walk })
  where
    stuck : {s : ℕ} (n : ℕ) → 0 < n → Walk (one_row 1 5) 0 (take n left) s → ⊥
    stuck zero some_byte walk = omega arith
    stuck (suc n) some_byte walk = omega (arith, walk_next walk)

-- and no cells say nothing
pub no_cells : CutWithOutcome [] line (9 ∷ []) (7 ∷ []) (stop no_token 1 0 0 no_set) (9 ∷ []) (7 ∷ [])
no_cells = refused_there (record { none = λ j n some_byte within says. omega (arith, walk_start says.walk) })
