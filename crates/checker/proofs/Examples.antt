-- The worked examples: each answer is one that the outcome allows.
use mathlib.Core.Path.{◌≡◌, refl, sym, subst}
use mathlib.Core.Bool.{Bool, true, false}
use mathlib.Core.Logic.{◌≢◌}
use mathlib.Core.List.{List}
use mathlib.Core.Option.{Option, some, none}
use Prim.Native.Nat.{ℕ, ◌<◌}
use native.Mathlib.Omega.{arith}
use lib.Dec.{T, eqb, eqb→eq, lit<}
use lib.ListN.{length, get_or, get_elem?, set, take}
use Rattle.grammar.specs.Grammar.{Production, Grammar, Rule, Every, nothing, each, Cell}
use Rattle.grammar.specs.House.{house}
use Rattle.grammar.proofs.Tests.{below, below_each}
use Rattle.book.proofs.Promise.{house_serves, useless_refused}
use Rattle.table.specs.Table.{size, row_at, column_at, held, TableOf}
use Rattle.table.specs.Fitting.{Fits, vacant, filled, FitTable, Misfit, length_given}
use Rattle.table.specs.Examples.{house_table, conflicted_house}
use Rattle.table.proofs.Promise.{cell_unique, held_unique, house_table_of, house_built, conflicted_house_serves}
use Rattle.table.proofs.Promise.{conflicted_house_conflict}
use Rattle.grammar.proofs.House.{house_no_conflict}
use Rattle.checker.specs.Calls.{FirstDifferent, CheckOutcome, refused, misfit, conflict, differs, passed}
use Rattle.checker.specs.Examples.{examples}

-- a table that fits, by a test that computes
module _ (g : Grammar) (table : List ℕ) where
  unfoldable left_is : ℕ → Option Production → Bool
  left_is A none = false
  left_is A (some r) = eqb r.left A

  unfoldable fits_here : ℕ → Option ℕ → Bool
  unfolding left_is
  fits_here i none = true
  fits_here i (some p) = left_is (row_at g i) (get_elem? g.productions p)

  unfoldable fit_test : Bool
  unfolding below fits_here held
  fit_test = below (size g) (λ i. fits_here i (held (get_or table i 255)))

  fit_tested : length table ≡ size g → T fit_test → FitTable g table
  unfolding fit_test fits_here left_is
  fit_tested sized t =
      record {
        sized = sized;
        cells = λ i inside.
            go i (held (get_or table i 255)) refl
            (below_each (size g) (λ j. fits_here j (held (get_or table j 255))) t i inside);
      }
    where
      ruled : (i p : ℕ) (o : Option Production)
          → get_elem? g.productions p ≡ o
          → held (get_or table i 255) ≡ some p
          → T (left_is (row_at g i) o)
          → Fits g table i
      ruled i p none e h t = absurd t
      ruled i p (some r) e h t =
          let left : r.left ≡ row_at g i = eqb→eq r.left (row_at g i) t in
          filled h (subst (λ (A : ℕ). Rule g p A r.right) left (record { at = e }))

      go : (i : ℕ) (o : Option ℕ) → held (get_or table i 255) ≡ o → T (fits_here i o) → Fits g table i
      go i none h t = vacant h
      go i (some p) h t = ruled i p (get_elem? g.productions p) refl h t

-- the first cell in which a table differs from the grammar's, by a test that computes
different_tested : (g : Grammar) (right table : List ℕ)
    → TableOf g right
    → (i : ℕ)
    → i < size g
    → T (below i (λ j. eqb (get_or table j 255) (get_or right j 255)))
    → get_or table i 255 ≢ get_or right i 255
    → FirstDifferent g table i
different_tested g right table built i inside t other =
    record {
      inside = inside;
      wrong = λ cell. other (held_unique (get_or table i 255) (get_or right i 255) (cell_unique cell (built.cells i inside)));
      earlier = λ j below_i.
          let same : get_or table j 255 ≡ get_or right j 255 =
          eqb→eq (get_or table j 255) (get_or right j 255)
          (below_each i (λ k. eqb (get_or table k 255) (get_or right k 255)) t j below_i) in
          subst (λ (byte : ℕ). Cell g (row_at g j) (column_at g j) (held byte)) (sym same) (built.cells j (omega arith));
    }

house_fits : FitTable house (set house_table 13 255)
unfolding house house_table fit_test
house_fits = fit_tested house (set house_table 13 255) refl tt

house_fits_too : FitTable house (set (set house_table 4 0) 13 255)
unfolding house house_table fit_test
house_fits_too = fit_tested house (set (set house_table 4 0) 13 255) refl tt

house_differs : FirstDifferent house (set house_table 13 255) 13
unfolding house house_table below
house_differs =
    different_tested house house_table (set house_table 13 255) house_table_of 13 (lit< tt) tt (λ e. absurd (omega arith))

house_differs_too : FirstDifferent house (set (set house_table 4 0) 13 255) 4
unfolding house house_table below
house_differs_too =
    different_tested house house_table (set (set house_table 4 0) 13 255) house_table_of 4 (lit< tt) tt
    (λ e. absurd (omega arith))

conflicted_fits : FitTable conflicted_house house_table
unfolding conflicted_house house_table fit_test
conflicted_fits = fit_tested conflicted_house house_table refl tt

conflicted_fits_too : FitTable conflicted_house (set house_table 0 255)
unfolding conflicted_house house_table fit_test
conflicted_fits_too = fit_tested conflicted_house (set house_table 0 255) refl tt

house_short : Misfit house (take 19 house_table) 19
unfolding house house_table
house_short = length_given short
  where
    short : length (take 19 house_table) ≢ size house
    short e = let bad : ◌≡◌ {A = ℕ} 19 20 = e in omega (arith, bad)

pub examples_checked : Every (λ e. CheckOutcome e.book e.cells e.answer) examples
unfolding examples house house_table
examples_checked =
    each (passed house_built)
    (each (differs house_serves house_fits house_no_conflict house_differs)
    (each (differs house_serves house_fits_too house_no_conflict house_differs_too)
    (each (conflict conflicted_house_serves conflicted_fits conflicted_house_conflict)
    (each (conflict conflicted_house_serves conflicted_fits_too conflicted_house_conflict)
    (each (misfit house_serves house_short)
    (each (refused useless_refused) nothing))))))
