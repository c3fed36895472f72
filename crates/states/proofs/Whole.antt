-- Rows that were laid cell by cell, over all states that were found, are the rows of the machine.
use mathlib.Core.Path.{◌≡◌, refl, sym, ap, ◌∙◌}
use mathlib.Core.Logic.{◌≢◌}
use mathlib.Core.List.{List}
use mathlib.Core.Option.{Option, some, none, some-injective}
use Prim.Native.Nat.{ℕ, ◌+◌, ◌-◌, ◌*◌, ◌/◌, ◌%◌, ◌≤◌, ◌<◌}
use native.Mathlib.Decide.{dec_lt, ℕ_discrete}
use native.Mathlib.Omega.{arith}
use lib.ListN.{length, get_or, get_elem?, drop, length-append, length-drop, get_or-append}
use lib.Seq.{get_or-append-add, get_or-drop, ext_get_or}
use Rattle.sets.specs.Sets.{Exactly}
use Rattle.sets.specs.Words.{places}
use Rattle.sets.proofs.Promise.{exactly_unique}
use Rattle.std.specs.Prelude.{Ok, Err}
use Rattle.answers.specs.declared.Answer.{Answer}
use Rattle.answers.specs.Answers.{refusal}
use Rattle.answers.specs.Checks.{Lacking, because}
use Rattle.answers.specs.Buffers.{over}
use Rattle.answers.specs.Limits.{point_words, byte_values, row_cells}
use Rattle.answers.specs.Lowest.{LowestAt}
use Rattle.answers.specs.Refusals.{room, machine_room}
use Rattle.numbering.specs.Numbering.{IsState, FoundAll}
use Rattle.numbering.proofs.Promise.{inside, moves_cell, cell_none}
use Rattle.moves.specs.Tables.{set_of, NextPoint}
use Rattle.states.specs.declared.found.States.{States}
use Rattle.states.specs.declared.tables.Tables.{Tables}
use Rattle.states.specs.Machine.{TableMove, no_cell, cell_of, token_of, rows_of}
use Rattle.states.specs.Sets.{Numbered, nothing, not_there, numbered}
use Rattle.states.specs.Searching.{machine_of, found_in, Searched}
use Rattle.states.specs.Making.{no_room, made, MadeOutcome}
use Rattle.states.specs.Filling.{Cell, Filled}
use Rattle.states.proofs.Sets.{states_length, state_at}
use Rattle.states.proofs.Turning.{tables_lawful}
use Rattle.states.proofs.Rows.{rows_length, rows_next, rows_token}

module _ (given : Tables) (states : States) {cells : List (Option ℕ)} (all : FoundAll (machine_of given) (found_in states) cells) where
  long : length cells ≡ byte_values * length (found_in states)
  long = all.all

  state : (i : ℕ) → i < states.count → IsState (machine_of given) (found_in states) i (set_of states.sets i)
  state i row = record { state = set_of states.sets i; at = state_at states.sets states.count i row; same = refl }

  -- a state by its number is the set of that number
  set_of_lem : (j y : ℕ) → IsState (machine_of given) (found_in states) j y → (j < states.count) × (set_of states.sets j ≡ y)
  set_of_lem j y is =
      let lower : j < states.count = omega (arith, inside (found_in states) j is.at, states_length states.sets states.count) in
      (lower, some-injective (set_of states.sets j) is.state (sym (state_at states.sets states.count j lower) ∙ is.at) ∙ sym is.same)

  module _ (i b : ℕ) (row : i < states.count) (short : b < byte_values) (y : ℕ)
      (exact : Exactly (places point_words) y (NextPoint given.readers.now given.follow.now (set_of states.sets i) b)) where
    -- a set that comes after is a state, whose number the cell holds
    held : y ≢ 0 → (j : ℕ) × (get_elem? cells (i * byte_values + b) ≡ some (some j)) × IsState (machine_of given) (found_in states) j y
    held full =
        let moved : TableMove given.readers.now given.follow.now (set_of states.sets i) b y = record { exact = exact; nonempty = full } in
        moves_cell (tables_lawful given.readers.now given.follow.now) all i b (set_of states.sets i) y short (state i row) moved

    -- what a cell holds is what was found for it
    named : (r : ℕ) → y ≢ 0 → LowestAt (λ (j : ℕ). set_of states.sets j ≡ y) states.count r → get_elem? cells (i * byte_values + b) ≡ some (some r)
    named r full sought =
        let (j, names, is) = held full in
        let other : IsState (machine_of given) (found_in states) r y =
        record { state = set_of states.sets r; at = state_at states.sets states.count r sought.inside; same = sym sought.holds } in
        let one : j ≡ r = all.found.distinct j r y is other in
        rw one at names

    -- and what comes after is nothing where it is none of the states
    empty_cell : y ≡ 0 → get_or (rows_of (found_in states) cells) (i * row_cells + b) 0 ≡ no_cell
    unfolding cell_of
    empty_cell empty =
        rows_next (found_in states) cells i b none long (omega (arith, states_length states.sets states.count)) short
        ((cell_none (tables_lawful given.readers.now given.follow.now) all i b (set_of states.sets i) short (state i row)).1
        (λ z moved. moved.nonempty (exactly_unique z y moved.exact exact ∙ empty)))

    pub cell_right : (r : ℕ) → Numbered states.sets states.count y r → get_or (rows_of (found_in states) cells) (i * row_cells + b) 0 ≡ r
    unfolding cell_of
    cell_right r (nothing empty) = empty_cell empty
    cell_right r (not_there away) = go (ℕ_discrete y 0)
      where
        go : Dec (y ≡ 0) → get_or (rows_of (found_in states) cells) (i * row_cells + b) 0 ≡ no_cell
        go (yes empty) = empty_cell empty
        go (no full) =
            let (j, names, is) = held full in
            let (lower, there) = set_of_lem j y is in
            absurd (away j lower there)
    cell_right r (numbered full sought) =
        rows_next (found_in states) cells i b (some r) long (omega (arith, states_length states.sets states.count)) short (named r full sought)

  module _ {before after : List ℕ} (enough : states.count * row_cells ≤ length before)
      (filled : Filled given states before (states.count * row_cells) after) where
    size : length (rows_of (found_in states) cells) ≡ states.count * row_cells
    size = rows_length (found_in states) cells long ∙ ap (λ (k : ℕ). k * row_cells) (states_length states.sets states.count)

    -- a cell of the rows
    laid : (k : ℕ) → k < states.count * row_cells → get_or after k 0 ≡ get_or (rows_of (found_in states) cells) k 0
    laid k below = go (dec_lt (k % row_cells) byte_values)
      where
        here : k ≡ k / row_cells * row_cells + k % row_cells
        here = omega arith

        go : Dec (k % row_cells < byte_values) → get_or after k 0 ≡ get_or (rows_of (found_in states) cells) k 0
        go (yes short) =
            let place = k / row_cells * row_cells + k % row_cells in
            let cell : Cell given states (k / row_cells) (k % row_cells) (get_or after place 0) =
            filled.next (k / row_cells) (k % row_cells) short (omega arith) in
            let right : get_or (rows_of (found_in states) cells) place 0 ≡ get_or after place 0 =
            cell_right (k / row_cells) (k % row_cells) (omega arith) short cell.points cell.exact (get_or after place 0) cell.number in
            sym (rw (← here) at right)
        go (no last) =
            let end = k / row_cells * row_cells + byte_values in
            let is : k ≡ end = omega arith in
            let row : k / row_cells < states.count = omega arith in
            let token : get_or after end 0 ≡ token_of (set_of states.sets (k / row_cells)) = filled.token (k / row_cells) (omega arith) in
            let right : get_or (rows_of (found_in states) cells) end 0 ≡ token_of (set_of states.sets (k / row_cells)) =
            rows_token (found_in states) cells (k / row_cells) (set_of states.sets (k / row_cells)) long (state_at states.sets states.count (k / row_cells) row) in
            rw (← is) at (token ∙ sym right)

    pub filled_rows : after ≡ over (rows_of (found_in states) cells) before
    filled_rows = ext_get_or 0 after (over (rows_of (found_in states) cells) before) same_length (λ k within. go k (dec_lt k (states.count * row_cells)))
      where
        rows : List ℕ
        rows = rows_of (found_in states) cells

        same_length : length after ≡ length (over rows before)
        same_length =
            omega (arith, filled.long, length-append rows (drop (length rows) before), length-drop (length rows) before, size)

        go : (k : ℕ) → Dec (k < states.count * row_cells) → get_or after k 0 ≡ get_or (over rows before) k 0
        go k (yes below) =
            laid k below ∙ sym (get_or-append rows (drop (length rows) before) 0 k (omega (arith, size)))
        go k (no above) =
            let place : length rows + (k - length rows) ≡ k = omega (arith, size) in
            filled.rest k (omega arith)
            ∙ sym (rw place at (get_or-append-add rows (drop (length rows) before) (k - length rows) 0
            ∙ get_or-drop (length rows) before (k - length rows) 0))

-- what making answers, after the search
module _ {given : Tables} {states : States} (searched : Searched given states) (machine : List ℕ) where
  pub make_no_room : {a : Answer}
      → Lacking (length machine) (states.count * row_cells) machine_room a
      → MadeOutcome given.readers.now given.follow.now machine (Err a) machine
  make_no_room (because short) =
      let outcome : MadeOutcome given.readers.now given.follow.now machine (Err (refusal room (length (found_in states) * row_cells) machine_room)) machine =
      no_room searched.all (omega (arith, states_length states.sets states.count, states.few)) (omega (arith, states_length states.sets states.count)) in
      rw (states_length states.sets states.count) at outcome

  pub make_whole : states.count * row_cells ≤ length machine → {after : List ℕ}
      → Filled given states machine (states.count * row_cells) after
      → MadeOutcome given.readers.now given.follow.now machine (Ok states.count) after
  make_whole enough {after} filled =
      let rows = rows_of (found_in states) searched.cells in
      let outcome : MadeOutcome given.readers.now given.follow.now machine (Ok (length (found_in states))) (over rows machine) =
      made searched.all (omega (arith, states_length states.sets states.count, states.few)) (omega (arith, states_length states.sets states.count)) in
      rw (filled_rows given states searched.all enough filled) (rw (states_length states.sets states.count) at outcome)
