-- What is proved of cutting by patterns, one page: each theorem under the sentence that it proves.
use mathlib.Core.Path.{◌≡◌}
use mathlib.Core.List.{List, [], ◌∷◌, ◌++◌}
use mathlib.Core.Logic.{◌↔◌, ◌⊎◌, ◌≢◌}
use mathlib.Core.Option.{Option, some}
use Prim.Native.Nat.{ℕ, ◌*◌, ◌≤◌, ◌<◌}
use lib.ListN.{length, get_elem?, replicate}
use Rattle.sets.specs.Calls.{no_set}
use Rattle.answers.specs.declared.Answer.{Answer}
use Rattle.answers.specs.Answers.{done, stop}
use Rattle.answers.specs.Buffers.{over}
use Rattle.answers.specs.Limits.{most_patterns, most_positions, most_states, row_cells}
use Rattle.answers.specs.Refusals.{served, room, no_token}
use Rattle.answers.specs.Refusals as refusals
use Rattle.numbering.specs.Numbering.{Lawful, IsState, FoundAll, TooMany, Reached, Alike}
use Rattle.numbering.proofs.Promise.{found_all_alike, too_many_alike, alike_back, found_reaches}
use Rattle.pattern.specs.Pattern.{Expression, Pattern}
use Rattle.pattern.specs.Positions.{positions, After}
use Rattle.pattern.specs.Text.{Bytes}
use Rattle.pattern.specs.House.{house_patterns}
use Rattle.patterns.specs.Calls.{Accepted, TablesOf}
use Rattle.patterns.specs.Examples.{house_bytes, house_lengths}
use Rattle.states.specs.Machine.{tables, rows_of}
use Rattle.pieces.specs.Cut.{Ending}
use Rattle.pieces.specs.Cut.{space, Piece, Cut}
use Rattle.pieces.specs.Laid.{LaidOut, FirstByte, StandsIn, end_before}
use Rattle.pieces.specs.Rows.{Walk, Says}
use Rattle.cut.specs.Patterns.{point_states, SomePoints, AfterSome, ManyAfter}
use Rattle.cut.specs.Calls.{CutOutcome, CutResult}
use Rattle.cut.specs.Examples.{letter_rows, house_sets, house_line}
use Rattle.cut.specs.Promised.{LowestMatch, RefusedEarly, ReachedLine, WasCut, CutsAs}
use Rattle.cut.proofs.Again as again
use Rattle.cut.proofs.Alike as alike
use Rattle.cut.proofs.Examples as examples
use Rattle.cut.proofs.Exact as exact
use Rattle.cut.proofs.OneLetter as letter
use Rattle.cut.proofs.Outcomes as outcomes
use Rattle.cut.proofs.Existing as existing
use Rattle.cut.proofs.House as house
use Rattle.cut.proofs.Many as many
use Rattle.cut.proofs.Reaching as reaching
use Rattle.cut.proofs.Unique as unique

-- equal sets of points are one state, one set at most is the start, and a byte leads to one set at most
pub states_lawful : (rs : List Expression) → Lawful (point_states rs)
states_lawful rs = alike.states_lawful rs

module _ {rs : List Expression} {readers follow : List ℕ} (t : TablesOf rs readers follow) where
  -- the tables of patterns make the same
  pub tables_alike : Alike (tables readers follow) (point_states rs)
  tables_alike = alike.tables_alike t

  -- so what is found in the tables is found by the patterns' own relations
  pub tables_found : {sets : List ℕ} {cells : List (Option ℕ)}
      → FoundAll (tables readers follow) sets cells
      ↔ FoundAll (point_states rs) sets cells
  tables_found = (found_all_alike tables_alike, found_all_alike (alike_back tables_alike))

  -- and too many states in one are too many in the other
  pub tables_too_many : TooMany (tables readers follow) most_states ↔ TooMany (point_states rs) most_states
  tables_too_many = (too_many_alike tables_alike, too_many_alike (alike_back tables_alike))

module _ {rs : List Expression} {sets : List ℕ} {cells : List (Option ℕ)}
    (few : length rs ≤ most_patterns)
    (fit : positions rs ≤ most_positions)
    (found : FoundAll (point_states rs) sets cells)
    (short : length sets ≤ most_states) where
  -- the states are the sets of the points that can come next once some string of bytes was read, those with a point
  pub states_after : (x : ℕ) → ((i : ℕ) × (get_elem? sets i ≡ some x)) ↔ AfterSome rs x
  states_after = reaching.states_after few fit found short

  -- and walking the string leads to the row of its set
  pub row_after : {w : List ℕ} {x : ℕ}
      → Bytes w
      → SomePoints (After rs w) x
      → (i : ℕ) × (get_elem? sets i ≡ some x) × Walk (rows_of sets cells) 0 w i
  row_after = reaching.row_after few fit found short

  -- the states are those that some string of bytes leads to
  pub states_reached : (x : ℕ)
      → ((i : ℕ) × IsState (point_states rs) sets i x)
      ↔ ((y : ℕ) × Reached (point_states rs) y × (y ≡ x))
  states_reached = found_reaches (alike.states_lawful rs) found

  -- walking the rows says of every string of bytes the lowest pattern that matches it, or none
  pub rows_exact : (u : List ℕ) → Bytes u → (k : ℕ) → Says (rows_of sets cells) k u ↔ LowestMatch rs k u
  rows_exact u bytes k = exact.rows_exact few fit found short u bytes k

  -- cutting a line of bytes by the rows is cutting it by the patterns' meaning
  pub cut_exact : {room place : ℕ} {line : List ℕ} {pieces : List Piece} {ending : Ending}
      → Bytes line
      → Cut (Says (rows_of sets cells)) room place line pieces ending ↔ Cut (Pattern rs) room place line pieces ending
  cut_exact bytes = exact.cut_exact few fit found short (exact.bytes_parts bytes)

module _ {patterns lengths line machine tokens : List ℕ} where
  -- whatever is lent with a line of bytes, there is an outcome
  pub cut_outcome_exists : Bytes line
      → (a : Answer) × (machine' : List ℕ) × (tokens' : List ℕ)
      × CutOutcome patterns lengths line machine tokens a machine' tokens'
  cut_outcome_exists bytes = existing.cut_outcome_exists bytes

  -- any two outcomes allowed are equal: the cases exclude each other, which is the order of the refusals
  pub cut_outcome_unique : {a b : Answer} {m m' t t' : List ℕ}
      → CutOutcome patterns lengths line machine tokens a m t
      → CutOutcome patterns lengths line machine tokens b m' t'
      → ◌≡◌ {A = CutResult} (a, m, t) (b, m', t')
  cut_outcome_unique one other = unique.cut_outcome_unique one other

  module _ {a : Answer} {machine' tokens' : List ℕ}
      (result : CutOutcome patterns lengths line machine tokens a machine' tokens') where
    -- a call is refused before the line, or the line is cut
    pub refused_or_cut : RefusedEarly a ⊎ ReachedLine a
    refused_or_cut = outcomes.refused_or_cut result

    -- never both
    pub refused_not_cut : RefusedEarly a → ¬ ReachedLine a
    refused_not_cut early reached = outcomes.early_or_line early reached

    -- refusal 16 is given exactly if the patterns are accepted and there are more than 256 such sets
    pub too_many_iff : (a.number ≡ refusals.states)
        ↔ ((rs : List Expression) × Accepted patterns lengths rs × ManyAfter rs most_states)
    too_many_iff = many.too_many_iff result

    -- refusals 4, 14, 16, and 7 with detail 1, leave both buffers as they were
    pub refused_unchanged : RefusedEarly a → (machine' ≡ machine) × (tokens' ≡ tokens)
    refused_unchanged early = outcomes.refused_unchanged result early

    -- every token written is below the number of patterns
    pub cut_below : (i : ℕ)
        → i < a.steps
        → (k : ℕ) × (get_elem? tokens' i ≡ some k) × (k < length lengths)
    cut_below i below = outcomes.cut_below result i below

    -- done, the line is its pieces in order, with nothing but spaces before, between and behind them
    pub cut_keeps_all : a.number ≡ served
        → (w : WasCut patterns lengths line machine tokens a machine' tokens') × LaidOut 0 w.pieces line
    cut_keeps_all whole = outcomes.outcome_keeps_all result whole

    -- a call that came to the line cut it: the tokens written are those of its pieces
    pub was_cut : ReachedLine a → WasCut patterns lengths line machine tokens a machine' tokens'
    was_cut reached = outcomes.was_cut result reached

    -- each piece starts at the first byte that is no space from the end before on, is the line from there to its end,
    -- and its pattern matches it
    pub cut_ends : ReachedLine a
        → (w : WasCut patterns lengths line machine tokens a machine' tokens')
        × ((i : ℕ) (p : Piece)
        → get_elem? w.pieces i ≡ some p
        → StandsIn line (end_before w.pieces i) p × Pattern w.meanings p.number p.bytes)
    cut_ends reached = outcomes.outcome_ends result reached

    -- with at least one pattern, `cut_with` on the machine that was left cuts every line as `cut` with the patterns
    pub cut_with_cut : 0 < length lengths → ReachedLine a → CutsAs patterns lengths machine'
    cut_with_cut some_pattern reached = again.cut_with_cut some_pattern result reached

    -- the cells of the largest machine, and a token cell for every byte, are always enough
    pub room_enough : most_states * row_cells ≤ length machine → length line ≤ length tokens → a.number ≢ room
    room_enough cells enough = outcomes.outcome_room result cells enough

-- and whatever stands behind the machine's own rows
pub cut_with_beginning : {patterns lengths sets : List ℕ} {rs : List Expression} {cells : List (Option ℕ)}
    → 0 < length lengths
    → Accepted patterns lengths rs
    → FoundAll (point_states rs) sets cells
    → length sets ≤ most_states
    → (more : List ℕ)
    → CutsAs patterns lengths (rows_of sets cells ++ more)
cut_with_beginning some_pattern accept found few more = again.rows_cut_as some_pattern accept found few more

-- with no pattern any line is refused at its first byte that is no space, whatever is lent, and the buffers stay
pub no_pattern : {patterns line machine tokens : List ℕ} {start : ℕ}
    → FirstByte line 0 start
    → CutOutcome patterns [] line machine tokens (stop no_token start 0 0 no_set) machine tokens
no_pattern first = examples.no_pattern first

-- and a line of spaces is done
pub only_spaces : {patterns machine tokens : List ℕ} (n : ℕ)
    → CutOutcome patterns [] (replicate n space) machine tokens (done 0) machine tokens
only_spaces n = examples.only_spaces n

-- with the pattern `a` the line "a a" has two tokens, both 0, and the machine has two rows
pub one_letter : (machine : List ℕ)
    → 2 * row_cells ≤ length machine
    → CutOutcome (97 ∷ []) (1 ∷ []) (97 ∷ 32 ∷ 97 ∷ []) machine (9 ∷ 9 ∷ 9 ∷ []) (done 2)
    (over letter_rows machine) (0 ∷ 0 ∷ 9 ∷ [])
one_letter machine fits = letter.one_letter machine fits

-- the house patterns have 18 states, in this order
pub house_states : (cells : List (Option ℕ))
    × FoundAll (point_states house_patterns) house_sets cells
    × (length house_sets ≡ 18)
house_states = let (cells, found) = house.house_found in (cells, found, house.house_states)

-- with cells for 18 rows "restore Anne in Ghent and Mary" has the tokens 0, 1, 2, 1, 3, 1, whatever stood there before
pub house_line_lem : (machine : List ℕ)
    → 18 * row_cells ≤ length machine
    → (a b c d e f : ℕ) (more : List ℕ)
    → (cells : List (Option ℕ))
    × FoundAll (point_states house_patterns) house_sets cells
    × CutOutcome house_bytes house_lengths house_line machine (a ∷ b ∷ c ∷ d ∷ e ∷ f ∷ more) (done 6)
    (over (rows_of house_sets cells) machine) (0 ∷ 1 ∷ 2 ∷ 1 ∷ 3 ∷ 1 ∷ more)
house_line_lem machine fits a b c d e f more = house.house_line_lem machine fits a b c d e f more
