-- What a check of a table promises, one page: each theorem under the sentence that it proves.
use mathlib.Core.Path.{◌≡◌}
use mathlib.Core.Logic.{◌↔◌}
use mathlib.Core.List.{List}
use Prim.Native.Nat.{ℕ, ◌≤◌}
use lib.ListN.{length, take}
use Rattle.grammar.specs.Grammar.{Grammar, Every, Conflict}
use Rattle.answers.specs.declared.Answer.{Answer}
use Rattle.book.specs.Judging.{Serves}
use Rattle.follow.specs.Calls.{SetsFit}
use Rattle.table.specs.Table.{size, BuiltWithoutConflict}
use Rattle.table.specs.Fitting.{FitTable}
use Rattle.table.specs.Calls.{BuildOutcome}
use Rattle.checker.specs.Calls.{FirstDifferent, CheckOutcome, CheckedWithFirst}
use Rattle.checker.specs.Examples.{examples}
use Rattle.checker.proofs.Unique as unique
use Rattle.checker.proofs.Passing as passing
use Rattle.checker.proofs.Examples as worked

module _ {book table : List ℕ} {a : Answer} (outcome : CheckOutcome book table a) where
  -- a table passes exactly if it is built without conflict
  pub check_passes : (a.number ≡ 0) ↔ BuiltWithoutConflict book table
  check_passes = passing.check_passes outcome

  -- one that fits is refused for a conflict exactly if the grammar has one, whatever the cells hold
  pub check_conflict : {g : Grammar}
      → Serves book g
      → FitTable g table
      → (a.number ≡ 8) ↔ Conflict g
  check_conflict = passing.check_conflict outcome

  -- on a served book with room, building is done and writes this very table exactly if the check passes it
  pub check_build : {g : Grammar} {first follow buffer : List ℕ} {b : Answer} {f w t : List ℕ}
      → Serves book g
      → SetsFit g first follow
      → size g ≤ length buffer
      → BuildOutcome book first follow buffer b f w t
      → (a.number ≡ 0) ↔ ((b.number ≡ 0) × (take (size g) t ≡ table))
  check_build = passing.check_build outcome

  -- and any two answers that it allows are equal
  pub check_outcome_unique : {b : Answer} → CheckOutcome book table b → a ≡ b
  check_outcome_unique = unique.check_outcome_unique outcome

-- the first cell that differs is determined
pub first_different_unique : {g : Grammar} {table : List ℕ} {i j : ℕ}
    → FirstDifferent g table i
    → FirstDifferent g table j
    → i ≡ j
first_different_unique = unique.first_different_unique

-- and so is FIRST of the book, which the check can leave
pub checked_with_first_unique : {book table : List ℕ} {a b : Answer} {first other : List ℕ}
    → CheckedWithFirst book table a first
    → CheckedWithFirst book table b other
    → (a ≡ b) × (first ≡ other)
checked_with_first_unique = unique.checked_with_first_unique

-- each worked example is answered so
pub examples_checked : Every (λ e. CheckOutcome e.book e.cells e.answer) examples
examples_checked = worked.examples_checked
