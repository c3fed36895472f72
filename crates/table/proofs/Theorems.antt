-- What tables promise, one page: each theorem under the sentence that it proves.
use mathlib.Core.Path.{◌≡◌}
use mathlib.Core.Bool.{true}
use mathlib.Core.Logic.{◌↔◌}
use mathlib.Core.List.{List}
use Prim.Native.Nat.{ℕ, ◌+◌, ◌%◌, ◌≤◌}
use lib.ListN.{length, take}
use Rattle.grammar.specs.Grammar.{Form, Grammar, Rule, Lookahead, Conflict}
use Rattle.grammar.specs.Machine.{Exact}
use Rattle.sets.specs.Sets.{member, column_place}
use Rattle.answers.specs.declared.Answer.{Answer}
use Rattle.answers.specs.Answers.{done}
use Rattle.answers.specs.Buffers.{over}
use Rattle.reader.specs.Book.{Limits}
use Rattle.book.specs.Judging.{Refuses, Serves}
use Rattle.book.proofs.Promise as judged
use Rattle.first.specs.Numbers.{IsSet}
use Rattle.follow.specs.Calls.{SetsFit}
use Rattle.table.specs.Table.{size, row_at, ClaimsCell, TableOf, FirstConflict, BuiltWithoutConflict, cell_of}
use Rattle.table.specs.Table.{ContestedCell}
use Rattle.table.specs.Calls.{BuildOutcome, BuildResult, ReportsConflict}
use Rattle.table.proofs.Cells as cells
use Rattle.table.proofs.Unique as unique
use Rattle.table.proofs.Outcomes as outcomes
use Rattle.table.proofs.Building as building

module _ {g : Grammar} (limits : Limits g) where
  -- a production claims a cell exactly if it is of the cell's row, and its lookahead has the bit of the cell's column
  pub claims_exactly : {p A : ℕ} {α : Form} {x : ℕ}
      → Rule g p A α
      → IsSet x (Lookahead g A α)
      → (i : ℕ)
      → ClaimsCell g i p ↔ ((A ≡ row_at g i) × (member (column_place (i % (g.tokens + 1)) g.tokens) x ≡ true))
  claims_exactly = cells.claims_exactly limits

  -- two productions claim one cell exactly if some cell of the table has two claimants
  pub conflict_cell : Conflict g ↔ ContestedCell g
  conflict_cell = cells.conflict_cell limits

  -- a table says to the machine what each cell claims, over all rows and columns
  pub table_exact : {table : List ℕ} → TableOf g table → Exact g (cell_of g table)
  table_exact {table} = cells.table_exact limits table

-- a table built without conflict, whoever made it, gives the machine exact cells
pub built_exact : {book table : List ℕ} (b : BuiltWithoutConflict book table)
    → Exact b.grammar (cell_of b.grammar table)
built_exact = cells.built_exact

-- a book is refused with one answer, or serves one grammar, and never both
pub refuses_unique : {book : List ℕ} {a b : Answer} → Refuses book a → Refuses book b → a ≡ b
refuses_unique = judged.refuses_unique

pub serves_unique : {book : List ℕ} {g h : Grammar} → Serves book g → Serves book h → g ≡ h
serves_unique = judged.serves_unique

pub refuses_not_serves : {book : List ℕ} {a : Answer} {g : Grammar} → Refuses book a → Serves book g → ⊥
refuses_not_serves = judged.refuses_not_serves

module _ {g : Grammar} where
  -- the table and the first conflict of a grammar are determined
  pub table_unique : {xs ys : List ℕ} → TableOf g xs → TableOf g ys → xs ≡ ys
  table_unique {xs} {ys} = unique.table_unique xs ys

  pub first_conflict_unique : {i j p q r s : ℕ}
      → FirstConflict g i p q
      → FirstConflict g j r s
      → (i ≡ j) × (p ≡ r) × (q ≡ s)
  first_conflict_unique = unique.first_conflict_unique

-- any two outcomes that building allows of the same inputs are equal, the answer and every buffer
pub build_outcome_unique : {book first follow table : List ℕ} {a b : Answer} {f w t x y z : List ℕ}
    → BuildOutcome book first follow table a f w t
    → BuildOutcome book first follow table b x y z
    → ◌≡◌ {A = BuildResult} (a, f, w, t) (b, x, y, z)
build_outcome_unique {book} {first} {follow} {table} = outcomes.build_outcome_unique book first follow table

module _ {book first follow table : List ℕ} {a : Answer} {f w t : List ℕ}
    (outcome : BuildOutcome book first follow table a f w t) where
  -- with room, the answer is a conflict exactly if two productions claim one cell
  pub conflict_iff : {g : Grammar}
      → Serves book g
      → SetsFit g first follow
      → size g ≤ length table
      → (a.number ≡ 8) ↔ Conflict g
  conflict_iff serves fit room = building.conflict_iff serves fit room outcome

  -- and it names the first such cell and its two lowest claimants
  pub conflict_first : a.number ≡ 8 → ReportsConflict book first follow table (a, f, w, t)
  conflict_first = building.conflict_first outcome

  -- building that is done gives a table built without conflict
  pub build_built : a.number ≡ 0 → (g : Grammar) × Serves book g × BuiltWithoutConflict book (take (size g) t)
  build_built = building.build_built outcome

  -- a table built without conflict, whoever made it, is what building writes
  pub built_build : {cells : List ℕ} → BuiltWithoutConflict book cells → a.number ≡ 0 → t ≡ over cells table
  built_build b = building.built_build b outcome

  -- and with room, building is done
  pub built_done : {cells : List ℕ} (b : BuiltWithoutConflict book cells)
      → SetsFit b.grammar first follow
      → size b.grammar ≤ length table
      → a ≡ done 0
  built_done b fit room = building.built_done b fit room outcome
