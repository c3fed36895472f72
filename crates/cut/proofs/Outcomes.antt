-- What every outcome of a call says: of tokens and buffers, of the line's pieces, and how far the call came.
use mathlib.Core.Path.{◌≡◌, refl, sym, ap, subst, ◌∙◌}
use mathlib.Core.List.{List, [], ◌∷◌}
use mathlib.Core.Option.{some, none-ne-some, some-injective}
use mathlib.Core.Logic.{◌⊎◌, ◌≢◌, inl, inr}
use Prim.Native.Nat.{ℕ, zero, suc, ◌*◌, ◌≤◌, ◌<◌}
use native.Mathlib.Omega.{arith}
use lib.ListN.{length, drop, get_elem?}
use Rattle.answers.specs.declared.Answer.{Answer}
use Rattle.answers.specs.Answers.{done, refusal, stop}
use Rattle.answers.specs.Limits.{most_states, row_cells}
use Rattle.answers.specs.Refusals.{served, room}
use Rattle.answers.specs.Refusals as refusals
use Rattle.numbering.proofs.Promise.{element, at_append}
use Rattle.pattern.specs.Pattern.{Expression, Pattern}
use Rattle.pattern.proofs.Promise.{below_length}
use Rattle.patterns.specs.Calls.{RefusesPatterns, many_patterns, bad_pattern, many_positions}
use Rattle.patterns.proofs.Promise.{accepted_length}
use Rattle.std.specs.Prelude.{Ok, Err}
use Rattle.pieces.specs.Cut.{Ending}
use Rattle.pieces.specs.declared.Stuck.TheVariants.{NoToken, NoRoom}
use Rattle.pieces.specs.Cut.{Piece, piece, numbers_of, Cut, end_of_line, space_dropped, token_cut, no_token_starts, no_room, answer_of}
use Rattle.pieces.specs.Laid.{LaidOut, StandsIn, end_before}
use Rattle.pieces.proofs.Promise.{cut_keeps_all, cut_ends, cut_matches, room_lacking}
use Rattle.cut.specs.Calls.{CutOutcome, refused, too_many, no_cells, cut}
use Rattle.cut.specs.Promised.{RefusedEarly, by_limit, by_pattern, by_states, by_room, ReachedLine, whole, without_token, without_room, WasCut}

-- the answers along a line
pub line_answer : (ending : Ending) (n : ℕ) → ReachedLine (answer_of ending n)
unfolding answer_of done stop
line_answer (Ok tt) n = whole refl
line_answer (Err (NoToken place)) n = without_token refl
line_answer (Err (NoRoom place)) n = without_room refl refl

-- are none of the early refusals
pub early_or_line : {a : Answer} → RefusedEarly a → ReachedLine a → ⊥
early_or_line (by_limit e) (whole d) = omega arith
early_or_line (by_limit e) (without_token d) = omega arith
early_or_line (by_limit e) (without_room d k) = omega arith
early_or_line (by_pattern e) (whole d) = omega arith
early_or_line (by_pattern e) (without_token d) = omega arith
early_or_line (by_pattern e) (without_room d k) = omega arith
early_or_line (by_states e) (whole d) = omega arith
early_or_line (by_states e) (without_token d) = omega arith
early_or_line (by_states e) (without_room d k) = omega arith
early_or_line (by_room e i) (whole d) = omega arith
early_or_line (by_room e i) (without_token d) = omega arith
early_or_line (by_room e i) (without_room d k) = omega arith

pub refuses_early : {patterns lengths : List ℕ} {a : Answer} → RefusesPatterns patterns lengths a → RefusedEarly a
unfolding refusal
refuses_early (many_patterns past) = by_limit refl
refuses_early (bad_pattern few bad) = by_pattern refl
refuses_early (many_positions few means good past) = by_limit refl

pub refuses_not_states : {patterns lengths : List ℕ} {a : Answer}
    → RefusesPatterns patterns lengths a
    → a.number ≢ refusals.states
unfolding refusal
refuses_not_states (many_patterns past) e = omega arith
refuses_not_states (bad_pattern few bad) e = omega arith
refuses_not_states (many_positions few means good past) e = omega arith

steps_are : (ending : Ending) (n : ℕ) → (answer_of ending n).steps ≡ n
unfolding answer_of done stop
steps_are (Ok tt) n = refl
steps_are (Err (NoToken place)) n = refl
steps_are (Err (NoRoom place)) n = refl

whole_ending : (ending : Ending) (n : ℕ) → (answer_of ending n).number ≡ served → ending ≡ Ok tt
unfolding answer_of done stop
whole_ending (Ok tt) n e = refl
whole_ending (Err (NoToken place)) n e = absurd (omega arith)
whole_ending (Err (NoRoom place)) n e = absurd (omega arith)

-- a token's number is a pattern's
number_below : {rs : List Expression} {room place : ℕ} {w : List ℕ} {pieces : List Piece} {ending : Ending}
    → Cut (Pattern rs) room place w pieces ending
    → (i : ℕ) (p : Piece)
    → get_elem? pieces i ≡ some p
    → p.number < length rs
number_below end_of_line i p e = absurd (none-ne-some p e)
number_below (space_dropped c) i p e = number_below c i p e
number_below {rs} (token_cut {place = place} {k = k} no_space t c) zero p e =
    let same : piece k place _ ≡ p = some-injective _ p e in
    let number : k ≡ p.number = ap (λ (q : Piece). q.number) same in
    omega (arith, below_length rs k t.matches.at)
number_below (token_cut no_space t c) (suc i) p e = number_below c i p e
number_below (no_token_starts no_space none) i p e = absurd (none-ne-some p e)
number_below (no_room no_space t) i p e = absurd (none-ne-some p e)

numbers_at : (pieces : List Piece) (i : ℕ) {p : Piece} → get_elem? pieces i ≡ some p → get_elem? (numbers_of pieces) i ≡ some p.number
unfolding numbers_of
numbers_at [] i {p} e = absurd (none-ne-some p e)
numbers_at (q ∷ pieces) zero {p} e = ap (λ (r : Piece). some r.number) (some-injective q p e)
numbers_at (q ∷ pieces) (suc i) e = numbers_at pieces i e

module _ {patterns lengths line machine tokens : List ℕ} where
  -- a call that came to the line cut it
  pub was_cut : {a : Answer} {machine' tokens' : List ℕ} → CutOutcome patterns lengths line machine tokens a machine' tokens'
      → ReachedLine a
      → WasCut patterns lengths line machine tokens a machine' tokens'
  unfolding refusal
  was_cut (refused r) reached = absurd (early_or_line (refuses_early r) reached)
  was_cut (too_many accept many) reached = absurd (early_or_line (by_states refl) reached)
  was_cut (no_cells accept f few short) reached = absurd (early_or_line (by_room refl refl) reached)
  was_cut (cut {rs = rs} {sets = sets} {cells = cells} {pieces = pieces} {ending = ending} accept f few fits c) reached =
      record {
        meanings = rs;
        accepted = accept;
        sets = sets;
        cells = cells;
        found = f;
        few = few;
        fits = fits;
        pieces = pieces;
        ending = ending;
        along = c;
        answered = refl;
        rows = refl;
        numbers = refl;
      }

  -- an early refusal leaves both buffers as they were
  pub refused_unchanged : {a : Answer} {machine' tokens' : List ℕ} → CutOutcome patterns lengths line machine tokens a machine' tokens'
      → RefusedEarly a
      → (machine' ≡ machine) × (tokens' ≡ tokens)
  refused_unchanged (refused r) early = (refl, refl)
  refused_unchanged (too_many accept many) early = (refl, refl)
  refused_unchanged (no_cells accept f few short) early = (refl, refl)
  refused_unchanged (cut {pieces = pieces} {ending = ending} accept f few fits c) early =
      absurd (early_or_line early (line_answer ending (length pieces)))

  -- every answer is an early refusal, or one along the line
  pub refused_or_cut : {a : Answer} {machine' tokens' : List ℕ} → CutOutcome patterns lengths line machine tokens a machine' tokens'
      → RefusedEarly a ⊎ ReachedLine a
  unfolding refusal
  refused_or_cut (refused r) = inl (refuses_early r)
  refused_or_cut (too_many accept many) = inl (by_states refl)
  refused_or_cut (no_cells accept f few short) = inl (by_room refl refl)
  refused_or_cut (cut {pieces = pieces} {ending = ending} accept f few fits c) = inr (line_answer ending (length pieces))

  -- every token written is below the number of patterns
  pub cut_below : {a : Answer} {machine' tokens' : List ℕ} → CutOutcome patterns lengths line machine tokens a machine' tokens'
      → (i : ℕ)
      → i < a.steps
      → (k : ℕ) × (get_elem? tokens' i ≡ some k) × (k < length lengths)
  unfolding refusal
  cut_below (refused r) i below = absurd (no_steps r below)
    where
      no_steps : {b : Answer} → RefusesPatterns patterns lengths b → i < b.steps → ⊥
      no_steps (many_patterns past) h = omega arith
      no_steps (bad_pattern few bad) h = omega arith
      no_steps (many_positions few means good past) h = omega arith
  cut_below (too_many accept many) i below = absurd (omega arith)
  cut_below (no_cells accept f few short) i below = absurd (omega arith)
  cut_below (cut {pieces = pieces} {ending = ending} accept f few fits c) i below =
      let (p, at) = element pieces i (omega (arith, steps_are ending (length pieces))) in (
        p.number,
        at_append (numbers_of pieces) (drop (length (numbers_of pieces)) tokens) i (numbers_at pieces i at),
        omega (arith, number_below c i p at, accepted_length accept),
      )

  -- done, the line is its pieces in order, with nothing but spaces before, between and behind them
  pub outcome_keeps_all : {a : Answer} {machine' tokens' : List ℕ} → CutOutcome patterns lengths line machine tokens a machine' tokens'
      → a.number ≡ served
      → (w : WasCut patterns lengths line machine tokens a machine' tokens') × LaidOut 0 w.pieces line
  outcome_keeps_all result e =
      let w = was_cut result (whole e) in
      let n = length w.pieces in
      let ending : w.ending ≡ Ok tt = whole_ending w.ending n (sym (ap (λ (b : Answer). b.number) w.answered) ∙ e) in
      let along : Cut (Pattern w.meanings) (length tokens) 0 line w.pieces (Ok tt) =
      subst (λ (q : Ending). Cut (Pattern w.meanings) (length tokens) 0 line w.pieces q) ending w.along in
      (w, cut_keeps_all along)

  -- each piece is the line from its start to its end, and its pattern matches it
  pub outcome_ends : {a : Answer} {machine' tokens' : List ℕ} → CutOutcome patterns lengths line machine tokens a machine' tokens'
      → ReachedLine a
      → (w : WasCut patterns lengths line machine tokens a machine' tokens')
      × ((i : ℕ) (p : Piece)
      → get_elem? w.pieces i ≡ some p
      → StandsIn line (end_before w.pieces i) p × Pattern w.meanings p.number p.bytes)
  outcome_ends result reached =
      let w = was_cut result reached in
      (w, λ i p at. (cut_ends w.along i p at, cut_matches w.along i p at))

  -- with the cells of the largest machine, and a token cell for every byte, room is never lacking
  pub outcome_room : {a : Answer} {machine' tokens' : List ℕ} → CutOutcome patterns lengths line machine tokens a machine' tokens'
      → most_states * row_cells ≤ length machine
      → length line ≤ length tokens
      → a.number ≢ room
  unfolding refusal answer_of done stop
  outcome_room (refused r) cells enough e = no_room_refused r e
    where
      no_room_refused : {b : Answer} → RefusesPatterns patterns lengths b → b.number ≢ room
      no_room_refused (many_patterns past) e = omega arith
      no_room_refused (bad_pattern few bad) e = omega arith
      no_room_refused (many_positions few means good past) e = omega arith
  outcome_room (too_many accept many) cells enough e = omega arith
  outcome_room (no_cells accept f few short) cells enough e = omega arith
  outcome_room (cut {pieces = pieces} {ending = ending} accept f few fits c) cells enough e = go ending c e
    where
      go : {rs : List Expression} {ps : List Piece} (q : Ending)
          → Cut (Pattern rs) (length tokens) 0 line ps q
          → (answer_of q (length pieces)).number ≢ room
      go (Ok tt) c e = omega arith
      go (Err (NoToken place)) c e = omega arith
      go (Err (NoRoom place)) c e = omega (arith, room_lacking c)
