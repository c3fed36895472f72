-- The house patterns, by computing: 18 states, and the line of example A.
use mathlib.Core.Path.{◌≡◌, refl, ap, subst}
use mathlib.Core.Bool.{Bool, true, ◌&&◌}
use mathlib.Core.Logic.{◌≢◌}
use mathlib.Core.List.{List, [], ◌∷◌}
use mathlib.Core.Option.{Option}
use Prim.Native.Nat.{ℕ, suc, ◌*◌, ◌≤◌, ◌<◌}
use native.Mathlib.Omega.{arith}
use lib.ListN.{length, drop}
use Rattle.sets.specs.Sets.{member, only, united, added}
use Rattle.answers.specs.Answers.{done}
use Rattle.answers.specs.Buffers.{over}
use Rattle.answers.specs.Limits.{most_patterns, most_positions, row_cells}
use Rattle.numbering.specs.Numbering.{Found, FoundAll}
use Rattle.numbering.proofs.Promise.{found_begun}
use Rattle.pattern.specs.Pattern.{Pattern}
use Rattle.pattern.specs.Positions.{size, positions}
use Rattle.pattern.specs.House.{codes, along, word, parish, house, house_patterns}
use Rattle.pattern.proofs.Promise.{house_sizes, nullable}
use Rattle.patterns.specs.Examples.{house_bytes, house_lengths}
use Rattle.patterns.proofs.Promise.{house_accepted}
use Rattle.states.specs.Machine.{rows_of}
use Rattle.std.specs.Prelude.{Ok}
use Rattle.pieces.specs.Cut.{space, Piece, piece, TokenAt, numbers_of, Cut, end_of_line, space_dropped, token_cut, answer_of}
use Rattle.cut.specs.Patterns.{point_states}
use Rattle.cut.specs.Calls.{CutOutcome, cut}
use Rattle.cut.specs.Examples.{set_with, house_sets, house_line}
use Rattle.cut.proofs.Alike.{states_lawful}
use Rattle.cut.proofs.Computing.{in_class, given, first_set, last_set, follow_set, reads_set}
use Rattle.cut.proofs.Listed.{union_below, of_meaning, of_pattern, start_set, onward_set, readers_set, next_by, next_set, after_from, start_exact}
use Rattle.cut.proofs.Working.{sooner, seek_set, placed, turned, Worked, worked, worked_found}
use Rattle.cut.proofs.Testing.{both, all_below, ends_after, none_ends, token_test, token_tested}

house_few : length house_patterns ≤ most_patterns
unfolding house_patterns house
house_few = omega arith

house_fit : positions house_patterns ≤ most_positions
house_fit = omega (arith, house_sizes.1)

house_worked : worked house_patterns 4608 (start_set house_patterns ∷ []) 0 ≡ record { sets = house_sets; turns = 4608 }
unfolding worked turned placed seek_set sooner next_set next_by start_set readers_set onward_set of_pattern of_meaning union_below reads_set follow_set last_set first_set given nullable in_class size positions house_patterns house parish word along house_sets set_with added united only member
house_worked = refl

start_some : start_set house_patterns ≢ 0
unfolding start_set of_pattern of_meaning union_below first_set given nullable size positions house_patterns house parish word along united only
start_some e = omega arith

pub house_states : length house_sets ≡ 18
unfolding house_sets
house_states = refl

-- the states are found in this order
pub house_found : (cells : List (Option ℕ)) × FoundAll (point_states house_patterns) house_sets cells
house_found =
    let begun = found_begun (states_lawful house_patterns) (start_set house_patterns)
    (record { exact = start_exact house_patterns house_few house_fit; nonempty = start_some }) in
    let (cells, found, long) = worked_found house_patterns house_few house_fit 4608 (start_set house_patterns ∷ []) [] 0 begun refl in
    (cells, whole cells found long)
  where
    whole : (cells : List (Option ℕ))
        → Found (point_states house_patterns) (worked house_patterns 4608 (start_set house_patterns ∷ []) 0).sets cells
        → length cells ≡ (worked house_patterns 4608 (start_set house_patterns ∷ []) 0).turns
        → FoundAll (point_states house_patterns) house_sets cells
    whole cells found long =
        record {
          found = subst (λ (w : Worked). Found (point_states house_patterns) w.sets cells) house_worked found;
          all = omega (arith, long, ap (λ (w : Worked). w.turns) house_worked, house_states);
        }

-- a token of the line: where it starts, its pattern, how many bytes it has
test_at : ℕ → ℕ → ℕ → Bool
unfolding token_test
test_at place k n = token_test house_patterns (drop place house_line) k n

house_tests : test_at 0 0 7 && (test_at 8 1 4 && (test_at 13 2 2 && (test_at 16 1 5 && (test_at 22 3 3 && test_at 26 1 4)))) ≡ true
unfolding test_at token_test none_ends ends_after all_below after_from next_set next_by start_set readers_set onward_set of_pattern of_meaning union_below reads_set follow_set last_set first_set given nullable in_class size positions house_patterns house parish word along house_line united only member
house_tests = refl

token_at : (place k n : ℕ) → 0 < n → n ≤ length (drop place house_line) → test_at place k n ≡ true
    → TokenAt (Pattern house_patterns) (drop place house_line) k n
unfolding test_at
token_at place k n some_byte within test = token_tested house_patterns house_few house_fit (drop place house_line) k n some_byte within test

no_space : (b : ℕ) → space < b → b ≢ space
no_space b above e = omega arith

-- its six tokens
house_pieces : List Piece
house_pieces =
    piece 0 0 (codes "restore")
    ∷ piece 1 8 (codes "Anne")
    ∷ piece 2 13 (codes "in")
    ∷ piece 1 16 (codes "Ghent")
    ∷ piece 3 22 (codes "and")
    ∷ piece 1 26 (codes "Mary")
    ∷ []

house_cut : (room : ℕ) → Cut (Pattern house_patterns) (suc (suc (suc (suc (suc (suc room)))))) 0 house_line house_pieces (Ok tt)
unfolding house_line house_pieces
house_cut room =
    let (restore, rest) = both (test_at 0 0 7) _ house_tests in
    let (anne, rest) = both (test_at 8 1 4) _ rest in
    let (in', rest) = both (test_at 13 2 2) _ rest in
    let (ghent, rest) = both (test_at 16 1 5) _ rest in
    let (and', mary) = both (test_at 22 3 3) _ rest in
    token_cut (no_space 114 (omega arith)) (token_at 0 0 7 (omega arith) (omega arith) restore)
    (space_dropped (token_cut (no_space 65 (omega arith)) (token_at 8 1 4 (omega arith) (omega arith) anne)
    (space_dropped (token_cut (no_space 105 (omega arith)) (token_at 13 2 2 (omega arith) (omega arith) in')
    (space_dropped (token_cut (no_space 71 (omega arith)) (token_at 16 1 5 (omega arith) (omega arith) ghent)
    (space_dropped (token_cut (no_space 97 (omega arith)) (token_at 22 3 3 (omega arith) (omega arith) and')
    (space_dropped (token_cut (no_space 77 (omega arith)) (token_at 26 1 4 (omega arith) (omega arith) mary)
    end_of_line))))))))))

-- example A: with cells for 18 rows the line has its six tokens
pub house_line_lem : (machine : List ℕ)
    → 18 * row_cells ≤ length machine
    → (a b c d e f : ℕ) (more : List ℕ)
    → (cells : List (Option ℕ))
    × FoundAll (point_states house_patterns) house_sets cells
    × CutOutcome house_bytes house_lengths house_line machine (a ∷ b ∷ c ∷ d ∷ e ∷ f ∷ more) (done 6)
    (over (rows_of house_sets cells) machine) (0 ∷ 1 ∷ 2 ∷ 1 ∷ 3 ∷ 1 ∷ more)
unfolding numbers_of answer_of house_pieces
house_line_lem machine fits a b c d e f more =
    let (cells, found) = house_found in (
      cells,
      found,
      cut house_accepted found (omega (arith, house_states)) (omega (arith, house_states)) (house_cut (length more)),
    )
