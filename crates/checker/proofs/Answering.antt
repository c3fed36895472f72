-- From what is worked out of a book and whether the table fits it to the outcome of the check.
use mathlib.Core.Path.{subst}
use mathlib.Core.List.{List}
use Prim.Native.Nat.{ℕ}
use Rattle.grammar.specs.Grammar.{Grammar}
use Rattle.answers.specs.declared.Answer.{Answer}
use Rattle.answers.specs.Answers.{refusal}
use Rattle.answers.specs.Refusals as refusals
use Rattle.book.specs.declared.Index.{Index}
use Rattle.book.specs.Columns.{grammar_in}
use Rattle.book.proofs.Promise.{reading_grammar}
use Rattle.book.specs.Judging.{Indexes}
use Rattle.follow.specs.WorkedOut.{AllServed}
use Rattle.table.specs.Fitting.{FitTable, Misfit}
use Rattle.checker.specs.Calls.{CheckOutcome, CheckedWithFirst}
use Rattle.checker.specs.Calls as calls
use Rattle.checker.specs.Checking.{Comparable}

module _ {book : List ℕ} {index : Index} {first follow ahead : List ℕ} (found : AllServed book first follow ahead index) (table : List ℕ) where
  abbrev given : Indexes book index
  given = found.given

  -- the check of the fit speaks of the book's grammar
  fitted : (P : Grammar → Type 0) → P (grammar_in book index) → P given.grammar
  fitted P = subst P (reading_grammar given.serves given.index)

  pub check_served : {a : Answer} → CheckOutcome book table a → CheckedWithFirst book table a first
  check_served outcome = calls.served given.serves found.firsts outcome

  pub check_misfit : {k : ℕ} → Misfit (grammar_in book index) table k → CheckedWithFirst book table (refusal refusals.table k 0) first
  check_misfit {k} misfit = check_served (calls.misfit given.serves (fitted (λ g. Misfit g table k) misfit))

  pub check_comparable : FitTable (grammar_in book index) table → Comparable book index ahead table
  check_comparable fits = record { given = given; looks = found.looks; fits = fitted (λ g. FitTable g table) fits }

-- the outcome without the sets
pub checked_outcome : {book table : List ℕ} {a : Answer} {first : List ℕ}
    → CheckedWithFirst book table a first
    → CheckOutcome book table a
checked_outcome (calls.refused refuses) = calls.refused refuses
checked_outcome (calls.served serves firsts outcome) = outcome
