-- A table that fits: its cells one by one, the whole, and that a check of it allows one answer.
use mathlib.Core.Path.{◌≡◌, refl, sym, ◌∙◌, ap, subst}
use mathlib.Core.Logic.{◌≢◌}
use mathlib.Core.Bool.{Bool, true, false}
use mathlib.Core.List.{List}
use mathlib.Core.Option.{Option, some, none}
use Prim.Native.Nat.{ℕ, ◌+◌, ◌*◌, ◌/◌, ◌≤◌, ◌<◌}
use native.Mathlib.Nat.{mul-le-mul, div-lt_iff_lt-mul}
use native.Mathlib.Omega.{arith}
use borrow.Author.Tests.{ne_eqb}
use lib.ListN.{length, get_or}
use Rattle.std.specs.Prelude.{⊤, Result, Ok, Err}
use Rattle.grammar.specs.Grammar.{Grammar, Rule, Cell}
use Rattle.sets.specs.Calls.{Decides}
use Rattle.sets.proofs.Promise.{value_unique}
use Rattle.answers.specs.Lowest.{FirstFailing, FailingAt}
use Rattle.answers.proofs.Promise.{first_failing_unique}
use Rattle.book.specs.declared.columns.Outline.{Outline}
use Rattle.reader.specs.Fields.{left_at}
use Rattle.book.specs.Columns.{outlined, Outlines, Gathered, IsOf}
use Rattle.book.proofs.Promise.{is_of_rule, rule_is_of}
use Rattle.table.specs.Fitting.{Fits, vacant, filled, FitTable, Misfit, length_given, cell, TableFitting, CellFits}
use Rattle.table.specs.Table.{size, row_at, column_at, held, TableOf}

pub held_vacant : {p : ℕ} {q : Option ℕ} → held p ≡ q → p ≡ 255 → q ≡ none
unfolding held
held_vacant {p} e f = sym e ∙ rw (f, held)

pub held_filled : {p : ℕ} {q : Option ℕ} → held p ≡ q → p ≢ 255 → q ≡ some p
unfolding held
held_filled {p} e n = sym e ∙ rw (ne_eqb p 255 n, held)

-- a row of cells ends within what a byte times a byte can reach
pub row_fits : (n t : ℕ) → n < 256 → t < 256 → n * (t + 1) ≤ 65280
row_fits n t h k = mul-le-mul {n₁ = n} {m₁ = t + 1} {n₂ = 255} {m₂ = 256} (omega arith) (omega arith)

-- the row of a cell of the table
pub row_below : (i n t : ℕ) → i < n * (t + 1) → i / (t + 1) < n
row_below i n t h = (div-lt_iff_lt-mul {k = t + 1} (omega arith)).1 h

-- what decides one statement decides another that holds exactly with it
decides_too : {A B : Type 0} (r : Bool) → Decides r A → (A → B) → (B → A) → Decides r B
decides_too true holds there back = there holds
decides_too false fails there back = λ b. fails (back b)

module _ {lefts : List ℕ} {o : Outline} (table : List ℕ) (i : ℕ) {p : ℕ} (there : p ≡ get_or table i 255) where
  pub vacant_fits : p ≡ 255 → CellFits lefts o table i true
  vacant_fits e = record { decides = λ book places column. vacant (held_vacant (ap held there) e) }

  pub filled_fits : {r : Bool}
      → p ≢ 255
      → Decides r (IsOf lefts o (i / (o.tokens + 1)) p)
      → CellFits lefts o table i r
  unfolding outlined
  filled_fits {r} n answer =
      record { decides = λ book places column. decides_too r answer (fits book places column) (back book places column) }
    where
      row : ℕ
      row = i / (o.tokens + 1)

      holds : held (get_or table i 255) ≡ some p
      holds = held_filled (ap held there) n

      fits : (book places : List ℕ)
          → Gathered (left_at book) places o.productions lefts
          → IsOf lefts o row p
          → Fits (outlined book places o) table i
      fits book places column h = let (β, rule) = is_of_rule book places o column h in filled holds rule

      back : (book places : List ℕ)
          → Gathered (left_at book) places o.productions lefts
          → Fits (outlined book places o) table i
          → IsOf lefts o row p
      back book places column (vacant f) =
          let h = holds in
          let bad : ◌≡◌ {A = ℕ} 0 1 = cc in absurd (omega arith)
      back book places column (filled {p = q} {β = β} f rule) =
          let h = holds in
          let same : q ≡ p = cc in
          rule_is_of book places o column (subst (λ (n : ℕ). Rule (outlined book places o) n row β) same rule)

module _ {o : Outline} {g : Grammar} (outlines : Outlines o g)
    {n : ℕ} (counts : n ≡ o.nonterminals * (o.tokens + 1)) where
  size_is : n ≡ size g
  size_is = counts ∙ rw (outlines.tokens, outlines.nonterminals)

  module _ {table : List ℕ} where
    pub misfit_length : length table ≢ n → Misfit g table (length table)
    misfit_length other = length_given (λ e. other (e ∙ sym size_is))

    module _ (same : length table ≡ n) where
      pub misfit_cell : {i : ℕ} → FailingAt (Fits g table) (length table) i → Misfit g table i
      misfit_cell {i} first = cell {i = i} (same ∙ size_is) (omega (arith, first.inside, size_is)) first.fails first.earlier

      pub fit_whole : ((i : ℕ) → i < length table → Fits g table i) → FitTable g table
      fit_whole fits = record { sized = same ∙ size_is; cells = λ i h. fits i (omega (arith, size_is)) }

-- a table of the grammar passes refusal 9
pub table_fits : {g : Grammar} {table : List ℕ} → TableOf g table → FitTable g table
table_fits {g} {table} t = record { sized = t.sized; cells = λ i h. go i refl (t.cells i h) }
  where
    go : (i : ℕ) {o : Option ℕ}
        → held (get_or table i 255) ≡ o
        → Cell g (row_at g i) (column_at g i) o
        → Fits g table i
    go i e (Cell.only k one) = filled e k.rule
    go i e (Cell.vacant n) = vacant e

module _ {g : Grammar} {table : List ℕ} where
  -- a table that fits has no misfit
  pub misfit_not_fit : {k : ℕ} → Misfit g table k → FitTable g table → ⊥
  misfit_not_fit (length_given n) f = n f.sized
  misfit_not_fit (cell {i = i} e h n earlier) f = n (f.cells i h)

  -- the first cell that does not fit is the first that fails
  first_fails : {i : ℕ} → i < size g → ¬ Fits g table i → ((j : ℕ) → j < i → Fits g table j) → FirstFailing (Fits g table) (size g) i
  first_fails inside misfits earlier = record { within = omega arith; earlier = earlier; fails = λ _. misfits }

  -- the first misfit is determined
  pub misfit_unique : {k j : ℕ} → Misfit g table k → Misfit g table j → k ≡ j
  misfit_unique (length_given n) (length_given m) = refl
  misfit_unique (length_given n) (cell e h m before) = absurd (n e)
  misfit_unique (cell e h m before) (length_given n) = absurd (n e)
  misfit_unique (cell e h m before) (cell f l n earlier) = first_failing_unique (first_fails h m before) (first_fails l n earlier)

-- a check of the table allows one answer
pub fitting_unique : (g : Grammar) (table : List ℕ) (a b : Result ⊤ ℕ)
    → TableFitting g table a
    → TableFitting g table b
    → a ≡ b
fitting_unique g table (Ok _) (Ok _) f h = refl
fitting_unique g table (Ok _) (Err k) f m = absurd (misfit_not_fit m f)
fitting_unique g table (Err k) (Ok _) m f = absurd (misfit_not_fit m f)
fitting_unique g table (Err k) (Err j) m n = ap Err (misfit_unique m n)

pub cell_at_unique : (table : List ℕ) (i : ℕ) {r r' : ℕ} → r ≡ get_or table i 255 → r' ≡ get_or table i 255 → r ≡ r'
cell_at_unique table i = value_unique
