-- A run in progress that its buffers spell, and what an offer to it answers and leaves.
use Rattle.std.specs.Prelude.{Option, Some, None}
use mathlib.Core.Path.{◌≡◌, refl, sym, ap, ◌∙◌}
use mathlib.Core.List.{List}
use Prim.Native.Nat.{ℕ, ◌+◌, ◌-◌, ◌≤◌, ◌<◌}
use native.Mathlib.Omega.{arith}
use lib.ListN.{length, length-append, take, take-append-drop}
use lib.Seq.{length-take-le}
use borrow.Author.Tests.{lt-ltb, le-ltb}
use Rattle.grammar.specs.Grammar.{Grammar}
use Rattle.answers.specs.Buffers.{counted}
use Rattle.book.specs.declared.Index.{Index}
use Rattle.book.specs.Columns.{grammar_in}
use Rattle.book.proofs.Promise.{outlined_sized}
use Rattle.table.specs.Table.{column_of, cell_of}
use Rattle.machine.specs.Machine.{Offered, taken, stopped, final}
use Rattle.machine.specs.Room.{right_of}
use Rattle.machine.proofs.Promise.{Grown, gained, offer_grown}
use Rattle.stack.specs.Ahead.{column_in}
use Rattle.stack.proofs.Promise.{cells_spelled, length_spelled, stacked_spelled}
use Rattle.offer.specs.Offering.{Holds, Ready, ColumnAhead, OfferedAt}
use Rattle.offer.specs.Resuming.{progress_of, reported, clamped, standing, offered_to, Offers, OfferedOn}
use Rattle.offer.specs.Stops.{values_of, deepest_in, answer_of, answered, run_answer}
use Rattle.offer.specs.declared.Progress.{Progress}
use Rattle.offer.specs.Reply.{Reply}

pub column_next : {column tokens : ℕ} → column < tokens → (g : Grammar) → g.tokens ≡ tokens → column_in (Some column) ≡ column_of g column
unfolding column_in column_of
column_next {column} h g e = rw (lt-ltb column g.tokens (rw e h), column_of)

pub column_end : {column tokens : ℕ} → tokens ≤ column → (g : Grammar) → g.tokens ≡ tokens → column_in None ≡ column_of g column
unfolding column_in column_of
column_end {column} h g e = rw (le-ltb column g.tokens (rw e h), column_of)

pub clamped_ready : (at : Progress) (stack list : List ℕ) → Ready (clamped at (length stack) (length list)) stack list
unfolding clamped
clamped_ready at stack list = record { height = omega arith; listed = omega arith; matched = omega arith }

-- the buffers hold the state that they spell, where the most cells held are those in use
standing_held : {at : Progress} {stack list : List ℕ} → Ready at stack list → at.deepest ≡ at.height → Holds (standing at stack list) at stack list stack list
unfolding standing
standing_held {at} {stack} {list} ready deepest =
    let cells : length (take at.listed list) ≡ at.listed = length-take-le at.listed list (omega (arith, ready.listed)) in
    record {
      height = sym (length_spelled stack at.height);
      listed = sym cells;
      matched = refl;
      deepest = deepest;
      moves = refl;
      highest = omega (arith, length_spelled stack at.height);
      stack_room = ready.height;
      list_room = omega (arith, ready.listed);
      spelled = cells_spelled stack at.height;
      stack_cells = stacked_spelled stack at.height (omega (arith, ready.height));
      list_cells = rw cells (sym (take-append-drop at.listed list));
    }

-- the reply has the answer of the outcome, where the moves are those counted
pub reply_told : (g : Grammar) (table : List ℕ) (o : Offered) → (final o).moves ≡ length (final o).listed + (final o).matched → answer_of g table (reported o) ≡ run_answer g table o
unfolding final reported progress_of values_of deepest_in answer_of answered run_answer
reply_told g table (taken s) e = rw e
reply_told g table (stopped r s) e = rw e

-- and from the state that the buffers spell they are
offered_told : (g : Grammar) (table : List ℕ) (column : ℕ) {at : Progress} {stack list : List ℕ} → Ready at stack list → answer_of g table (reported (offered_to g table column at stack list)) ≡ run_answer g table (offered_to g table column at stack list)
unfolding standing offered_to
offered_told g table column {at} {stack} {list} ready =
    let cells : length (take at.listed list) ≡ at.listed = length-take-le at.listed list (omega (arith, ready.listed)) in
    let o : Offered = offered_to g table column at stack list in
    let grown : Grown (standing at stack list) (final o) (gained (column_of g column) o) = offer_grown (right_of g) (cell_of g table) (counted stack) (counted list) (counted list - at.listed) (column_of g column) (standing at stack list) (omega (arith, ready.listed)) in
    reply_told g table o (omega (arith, grown.steps, grown.matches, ap length grown.lists, length-append (take at.listed list) grown.new))

module _ (book : List ℕ) (index : Index) (table : List ℕ) (column : ℕ) {ahead : Option ℕ}
    (same : ColumnAhead column index.outline.tokens ahead) {stack list : List ℕ} {r : Reply} {stack' list' : List ℕ} where
  -- what is offered to every state that the buffers hold is offered to the one that they spell
  spelled_offers : {at : Progress}
      → Ready at stack list
      → at.deepest ≡ at.height
      → OfferedAt book index table ahead at stack list r stack' list'
      → Offers (offered_to (grammar_in book index) table column at stack list) stack list r stack' list'
  unfolding offered_to
  spelled_offers {at} ready deepest offered =
      let x = offered.offers (standing at stack list) (standing_held ready deepest) in
      let sized = outlined_sized book index.places index.outline in
      rw (← same.same (grammar_in book index) sized.tokens)
      (record { answer = x.answer; stack_cells = x.holds.stack_cells; list_cells = x.holds.list_cells })

  pub offer_resumed : (at : Progress) {from : Progress}
      → from ≡ clamped at (length stack) (length list)
      → OfferedAt book index table ahead from stack list r stack' list'
      → OfferedOn (grammar_in book index) table column at stack list r stack' list'
  unfolding clamped
  offer_resumed at clamps offered =
      let ready = clamped_ready at stack list in
      let x : Offers (offered_to (grammar_in book index) table column (clamped at (length stack) (length list)) stack list) stack list r stack' list' =
      spelled_offers ready refl (rw clamps at offered) in
      record {
        offers = x;
        told = ap (answer_of (grammar_in book index) table) x.answer ∙ offered_told (grammar_in book index) table column ready;
      }
