-- Whether a number fits under a column, one law for each test that the code makes.
use mathlib.Core.Path.{◌≡◌}
use mathlib.Core.Logic.{◌≢◌}
use mathlib.Core.Bool.{Bool, true, false, not}
use mathlib.Core.List.{List}
use Prim.Native.Nat.{ℕ, ◌+◌, ◌-◌, ◌≤◌, ◌<◌}
use native.Mathlib.Decide.{dec_lt}
use native.Mathlib.Omega.{arith}
use borrow.Author.Tests.{ltb-true, eqb-true, eqb-false, not-true, lt-ltb, eq-eqb, ne_eqb}
use lib.Dec.{eqb, ltb}
use lib.ListN.{length, get_or}
use Rattle.sets.specs.Calls.{Decides}
use Rattle.sets.proofs.Promise.{decided}
use Rattle.table.proofs.Promise.{get_d_inside}
use Rattle.book.specs.declared.columns.Outline.{Outline}
use Rattle.slr_run.specs.Fitting.{NumberFits, empty, shifts, reduces, accepts, moves}
use Rattle.slr_run.specs.Checking.{RowFits}

module _ (T P rows column number : ℕ) (few : rows ≤ 256) (short : P < 256) (filled : number ≢ 65535) where
  -- a state's number stands under a token or a nonterminal
  pub fits_state : number < rows → Decides (not (eqb column T)) (NumberFits T P rows column number)
  fits_state low = decided (not (eqb column T)) (λ e. there (not-true (eqb column T) e) (dec_lt column T)) back
    where
      there : eqb column T ≡ false → Dec (column < T) → NumberFits T P rows column number
      there e (yes h) = shifts h low
      there e (no h) = let other : column ≢ T = eqb-false column T e in moves (omega arith) low

      apart : column ≢ T → not (eqb column T) ≡ true
      apart n = rw (ne_eqb column T n)

      back : NumberFits T P rows column number → not (eqb column T) ≡ true
      back (empty e) = absurd (filled e)
      back (shifts h k) = apart (λ e. omega arith)
      back (reduces h k e) = absurd (omega arith)
      back (accepts h e) = absurd (omega arith)
      back (moves h k) = apart (λ e. omega arith)

  module _ (high : rows ≤ number) where
    -- under a nonterminal there is nothing else
    pub fits_no_move : T < column → NumberFits T P rows column number → ⊥
    fits_no_move h (empty e) = filled e
    fits_no_move h (shifts k l) = omega arith
    fits_no_move h (reduces k l e) = omega arith
    fits_no_move h (accepts k e) = omega arith
    fits_no_move h (moves k l) = omega arith

    module _ (low : column ≤ T) where
      pub fits_accept : number ≡ 1023 → Decides (eqb column T) (NumberFits T P rows column number)
      fits_accept is = decided (eqb column T) (λ e. accepts (eqb-true column T e) is) back
        where
          back : NumberFits T P rows column number → eqb column T ≡ true
          back (empty e) = absurd (filled e)
          back (shifts h k) = absurd (omega arith)
          back (reduces h k e) = absurd (omega arith)
          back (accepts h e) = eq-eqb column T h
          back (moves h k) = absurd (omega arith)

      pub fits_nothing : number < 512 → NumberFits T P rows column number → ⊥
      fits_nothing h (empty e) = filled e
      fits_nothing h (shifts k l) = omega arith
      fits_nothing h (reduces k l e) = omega arith
      fits_nothing h (accepts k e) = omega arith
      fits_nothing h (moves k l) = omega arith

      pub fits_reduce : 512 ≤ number
          → number ≢ 1023
          → Decides (ltb (number - 512) P) (NumberFits T P rows column number)
      fits_reduce from other =
          decided (ltb (number - 512) P) (λ e. reduces low (ltb-true (number - 512) P e) (omega arith)) back
        where
          back : NumberFits T P rows column number → ltb (number - 512) P ≡ true
          back (empty e) = absurd (filled e)
          back (shifts h k) = absurd (omega arith)
          back (reduces h k e) = lt-ltb (number - 512) P (omega arith)
          back (accepts h e) = absurd (other e)
          back (moves h k) = absurd (omega arith)

-- what is read within the table
pub read_fits : (o : Outline) (rows : ℕ) (table : List ℕ) (base column : ℕ) (r : Bool)
    → base + column < length table
    → Decides r (NumberFits o.tokens o.productions rows column (get_or table (base + column) 0))
    → Decides r (RowFits o rows table base column)
read_fits o rows table base column r inside h = rw (get_d_inside table (base + column) 65535 0 inside) h
