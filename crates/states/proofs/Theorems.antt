-- What states promises, one page: each theorem under the sentence that it proves.
use mathlib.Core.Path.{◌≡◌, refl, sym, ap, ◌∙◌}
use mathlib.Core.Bool.{true, false}
use mathlib.Core.Logic.{◌≢◌, ◌↔◌}
use mathlib.Core.List.{List}
use mathlib.Core.Option.{Option, some, none}
use Prim.Native.Nat.{ℕ, ◌+◌, ◌*◌, ◌≤◌, ◌<◌}
use native.Mathlib.Omega.{arith}
use lib.ListN.{length, get_or, get_elem?}
use Rattle.std.specs.Prelude.{Err, IsErrAnd}
use Rattle.answers.specs.declared.Answer.{Answer}
use Rattle.answers.specs.Answers.{refusal}
use Rattle.sets.specs.Sets.{member}
use Rattle.answers.specs.Limits.{most_positions, byte_values, most_states, row_cells}
use Rattle.answers.specs.Refusals.{served, states}
use Rattle.numbering.specs.Numbering.{Automaton, Lawful, FoundAll, whole, Reached, ManyReached, Alike}
use Rattle.numbering.specs.Numbering as numbering
use Rattle.numbering.proofs.Promise as found
use Rattle.states.specs.Machine.{TableMove, tables, no_cell, cell_of, lowest_end, token_of, rows_of}
use Rattle.states.specs.Making.{MachineMade, Made, too_many, no_room, made, MadeOutcome}
use Rattle.states.proofs.Rows.{rows_next}
use Rattle.states.proofs.Rows as rows
use Rattle.states.proofs.Ends as ends
use Rattle.states.proofs.Turning as turning

-- the tables' machine has one start and by each byte one next state
pub tables_lawful : (readers follow : List ℕ) → Lawful (tables readers follow)
tables_lawful readers follow = turning.tables_lawful readers follow

-- the rows have 257 cells a state, and behind the bytes of a row stands its state's token
pub rows_length : (sets : List ℕ) (cells : List (Option ℕ))
    → length cells ≡ byte_values * length sets
    → length (rows_of sets cells) ≡ length sets * row_cells
rows_length = rows.rows_length

pub rows_token : (sets : List ℕ) (cells : List (Option ℕ)) (r x : ℕ)
    → length cells ≡ byte_values * length sets
    → get_elem? sets r ≡ some x
    → get_or (rows_of sets cells) (r * row_cells + byte_values) 0 ≡ token_of x
rows_token = rows.rows_token

-- of the n patterns from k on, the lowest whose end a set has is j, if it has that and no lower one
pub end_lowest : (x k n j : ℕ)
    → k ≤ j
    → j < k + n
    → member (most_positions + j) x ≡ true
    → ((i : ℕ) → k ≤ i → i < j → member (most_positions + i) x ≡ false)
    → lowest_end x k n ≡ j
end_lowest = ends.end_lowest

-- and none if it has none of them
pub end_none : (x k n : ℕ)
    → ((i : ℕ) → k ≤ i → i < k + n → member (most_positions + i) x ≡ false)
    → lowest_end x k n ≡ no_cell
end_none = ends.end_none

module _ {m : Automaton ℕ} (law : Lawful m) (equal : (x y : ℕ) → m.Same x y → x ≡ y) where
  -- the rows are determined
  pub rows_unique : {sets sets' : List ℕ} {cells cells' : List (Option ℕ)}
      → FoundAll m sets cells
      → FoundAll m sets' cells'
      → rows_of sets cells ≡ rows_of sets' cells'
  rows_unique f g = rw (found.states_unique law equal f g, (found.found_unique law f g).0)

  -- and so is what making answers, and what it leaves in the cells that were lent
  pub made_unique : {machine : List ℕ} {r r' : MachineMade} {after after' : List ℕ}
      → Made m machine r after
      → Made m machine r' after'
      → (r ≡ r') × (after ≡ after')
  made_unique (too_many h) (too_many h') = (refl, refl)
  made_unique (too_many h) (no_room f few short) = absurd (found.too_many_excludes_whole law f most_states h few)
  made_unique (too_many h) (made f few enough) = absurd (found.too_many_excludes_whole law f most_states h few)
  made_unique (no_room f few short) (too_many h) = absurd (found.too_many_excludes_whole law f most_states h few)
  made_unique (no_room f few short) (no_room f' few' short') = (rw (found.found_unique law f f').1, refl)
  made_unique (no_room f few short) (made f' few' enough) = absurd (omega (arith, (found.found_unique law f f').1))
  made_unique (made f few enough) (too_many h) = absurd (found.too_many_excludes_whole law f most_states h few)
  made_unique (made f few enough) (no_room f' few' short) = absurd (omega (arith, (found.found_unique law f f').1))
  made_unique (made f few enough) (made f' few' enough') =
      (rw (found.found_unique law f f').1, rw (rows_unique f f'))

-- what is made by one start and moves is made by every other that is like them
pub made_alike : {m m' : Automaton ℕ} → Alike m m' → {machine : List ℕ} {r : MachineMade} {after : List ℕ}
    → Made m machine r after
    → Made m' machine r after
made_alike alike (too_many h) = too_many (found.too_many_alike alike h)
made_alike alike (no_room f few short) = no_room (found.found_all_alike alike f) few short
made_alike alike (made f few enough) = made (found.found_all_alike alike f) few enough

-- refused: the answer says so, and the cells are as they were
pub refused_unchanged : {m : Automaton ℕ} {machine : List ℕ} {a : Answer} {after : List ℕ}
    → Made m machine (Err a) after
    → (a.number ≢ served) × (after ≡ machine)
unfolding refusal
refused_unchanged (too_many h) = (λ e. omega arith, refl)
refused_unchanged (no_room f few short) = (λ e. omega arith, refl)

module _ {readers follow : List ℕ} where
  -- so making by two tables leaves one answer and one content of the cells
  pub made_outcome_unique : {machine : List ℕ} {r r' : MachineMade} {after after' : List ℕ}
      → MadeOutcome readers follow machine r after
      → MadeOutcome readers follow machine r' after'
      → (r ≡ r') × (after ≡ after')
  made_outcome_unique = made_unique (tables_lawful readers follow) (λ x y e. e)

  -- the states of the tables' machine are the sets that some string of bytes leads to from what can come first
  pub found_reaches : {sets : List ℕ} {cells : List (Option ℕ)} → FoundAll (tables readers follow) sets cells
      → (x : ℕ)
      → ((i : ℕ) × (get_elem? sets i ≡ some x)) ↔ Reached (tables readers follow) x
  found_reaches {sets} f x = (to, from)
    where
      law : Lawful (tables readers follow)
      law = tables_lawful readers follow

      to : ((i : ℕ) × (get_elem? sets i ≡ some x)) → Reached (tables readers follow) x
      to (i, e) =
          let (y, reached, same) = (found.found_reaches law f x).0 (i, found.is_itself law e) in
          rw same at reached

      from : Reached (tables readers follow) x → (i : ℕ) × (get_elem? sets i ≡ some x)
      from reached =
          let (i, is) = (found.found_reaches law f x).1 (x, reached, refl) in
          (i, is.at ∙ ap {B = Option ℕ} some (sym is.same))

  -- the cell of a byte holds the number of the state that the byte leads to
  pub row_leads : {sets : List ℕ} {cells : List (Option ℕ)} → FoundAll (tables readers follow) sets cells
      → (i b x y : ℕ)
      → b < byte_values
      → get_elem? sets i ≡ some x
      → TableMove readers follow x b y
      → get_elem? sets (get_or (rows_of sets cells) (i * row_cells + b) 0) ≡ some y
  unfolding cell_of
  row_leads {sets} {cells} f i b x y short at moved =
      let law = tables_lawful readers follow in
      let (j, names, is) = found.moves_cell law f i b x y short (found.is_itself law at) moved in
      rw (rows_next sets cells i b (some j) f.all (found.inside sets i at) short names)
      (is.at ∙ ap {B = Option ℕ} some (sym is.same))

  -- and none if it leads nowhere
  pub row_stops : {sets : List ℕ} {cells : List (Option ℕ)} → FoundAll (tables readers follow) sets cells
      → (i b x : ℕ)
      → b < byte_values
      → get_elem? sets i ≡ some x
      → ((y : ℕ) → ¬ TableMove readers follow x b y)
      → get_or (rows_of sets cells) (i * row_cells + b) 0 ≡ no_cell
  unfolding cell_of
  row_stops {sets} {cells} f i b x short at stops =
      let law = tables_lawful readers follow in
      rows_next sets cells i b none f.all (found.inside sets i at) short
      ((found.cell_none law f i b x short (found.is_itself law at)).1 stops)

  -- where all states are found and are not too many, no more can be reached
  not_many : {sets : List ℕ} {cells : List (Option ℕ)} → FoundAll (tables readers follow) sets cells
      → length sets ≤ most_states
      → ManyReached (tables readers follow) most_states
      → ⊥
  not_many f few many =
      let law = tables_lawful readers follow in
      found.too_many_excludes_whole law f most_states ((found.too_many_iff law (whole f few)).1 many) few

  -- refusal 16 is given exactly if more than 256 of them can be reached
  pub too_many_iff : {machine : List ℕ} {r : MachineMade} {after : List ℕ} → MadeOutcome readers follow machine r after
      → IsErrAnd r (λ (a : Answer). a.number ≡ states) ↔ ManyReached (tables readers follow) most_states
  unfolding refusal
  too_many_iff (too_many h) =
      (λ e. (found.too_many_iff (tables_lawful readers follow) (numbering.too_many h)).0 h, λ many. refl)
  too_many_iff (no_room f few short) = (λ e. absurd (omega arith), λ many. absurd (not_many f few many))
  too_many_iff (made f few enough) = (λ e. absurd (omega arith), λ many. absurd (not_many f few many))
