-- The checks before steps: the table, the tokens, and what a call is refused with.
use Rattle.std.specs.Prelude.{Option, Some, None, Ok, Err}
use mathlib.Core.Path.{◌≡◌, ◌∙◌, ap}
use mathlib.Core.Logic.{◌≢◌}
use mathlib.Core.List.{List}
use Prim.Native.Nat.{ℕ, ◌+◌, ◌*◌, ◌/◌, ◌%◌, ◌≤◌, ◌<◌}
use native.Mathlib.Nat.{div-add-mod'}
use native.Mathlib.Omega.{arith}
use lib.ListN.{length, get_or}
use Rattle.grammar.specs.Grammar.{Grammar}
use Rattle.answers.specs.Answers.{refusal}
use Rattle.answers.specs.Limits.{longest_string}
use Rattle.answers.specs.Lowest.{LowestAt, FirstFailing, FailingIn}
use Rattle.answers.specs.Refusals as refusals
use Rattle.answers.specs.declared.Answer.{Answer}
use Rattle.book.specs.declared.columns.Outline.{Outline}
use Rattle.run.specs.Running.{Strange, FirstStrange}
use Rattle.slr_run.specs.Fitting.{SlrCellFits, SlrSized, length_given, cell}
use Rattle.slr_run.specs.Running.{bad_table, too_long, strange, no_stack}
use Rattle.slr_run.specs.Checking.{columns_in, rows_of, Counts, CellFits, WholeRows, TableCheck, CheckedFor}

module _ (o : Outline) (table : List ℕ) {columns rows : ℕ} (wide : columns ≡ columns_in o) (deep : rows ≡ length table / columns) where
  rows_are : rows ≡ rows_of o table
  rows_are = deep ∙ ap (λ (n : ℕ). length table / n) wide

  -- the grammar's size is the outline's
  sized_rows : {g : Grammar} → Counts o g → SlrSized g table → (length table % columns ≡ 0) × (1 ≤ rows) × (rows ≤ 256)
  sized_rows {g} n s =
      let whole : length table % columns ≡ 0 = rw wide (rw (n.tokens, n.nonterminals) at s.whole) in
      let some : 1 ≤ rows = rw rows_are (rw (n.tokens, n.nonterminals) at s.some) in
      let few : rows ≤ 256 = rw rows_are (rw (n.tokens, n.nonterminals) at s.few) in
      (whole, some, few)

  pub not_whole : length table % columns ≢ 0 → TableCheck o table (Some (length table))
  not_whole other = record { checked = λ g n. (length_given (λ s. other (sized_rows n s).0)) }

  pub no_row : rows ≡ 0 → TableCheck o table (Some (length table))
  no_row none = record { checked = λ g n. (length_given (λ s. omega (arith, (sized_rows n s).1))) }

  pub many_rows : 256 < rows → TableCheck o table (Some (length table))
  many_rows many = record { checked = λ g n. (length_given (λ s. omega (arith, (sized_rows n s).2))) }

  module _ (whole : length table % columns ≡ 0) (some : rows ≢ 0) (few : rows ≤ 256) where
    pub whole_rows : WholeRows o table rows
    whole_rows =
        let split : rows * columns + length table % columns ≡ length table =
        rw deep (div-add-mod' (length table) columns) in
        record { sized = rw (← wide) (omega arith); few = few }

    sized_by : {g : Grammar} → Counts o g → SlrSized g table
    sized_by n =
        record {
          whole = rw (n.tokens, n.nonterminals, ← wide) whole;
          some = rw (n.tokens, n.nonterminals, ← rows_are) (omega arith);
          few = rw (n.tokens, n.nonterminals, ← rows_are) few;
        }

    cell_by : {g : Grammar} → Counts o g → (i : ℕ) → CellFits o rows table i → SlrCellFits g table i
    cell_by n i h = rw (n.tokens, n.nonterminals, n.productions, ← rows_are) h

    by_cell : {g : Grammar} → Counts o g → (i : ℕ) → SlrCellFits g table i → CellFits o rows table i
    by_cell n i h = rw (← rows_are) at (rw (n.tokens, n.nonterminals, n.productions) at h)

    -- every cell fits, or the first that does not is told
    pub cells_checked : (r : Option ℕ) → FailingIn (CellFits o rows table) (length table) r → TableCheck o table r
    cells_checked None fits =
        record { checked = λ g n. record { sized = sized_by n; cells = λ i h. cell_by n i (fits i h) } }
    cells_checked (Some i) first = record { checked = λ g n. cell (sized_by n) first.inside (fails n) }
      where
        fails : {g : Grammar} → Counts o g → FirstFailing (SlrCellFits g table) (length table) i
        fails n =
            record {
              within = omega (arith, first.inside);
              earlier = λ j h. cell_by n j (first.earlier j h);
              fails = λ h fits. first.fails (by_cell n i fits);
            }

-- where no token is T or above, every one is below T
known : {o : Outline} {g : Grammar} (tokens : List ℕ)
    → Counts o g
    → ((j : ℕ) → j < length tokens → ¬ Strange o.tokens tokens j)
    → (j : ℕ)
    → j < length tokens
    → get_or tokens j 0 < g.tokens
known tokens n none j h =
    let not : ¬ (_ ≤ get_or tokens j 0) = none j h in
    omega (arith, n.tokens)

first_strange : {o : Outline} {g : Grammar} {tokens : List ℕ} {k : ℕ}
    → Counts o g
    → LowestAt (Strange o.tokens tokens) (length tokens) k
    → FirstStrange g tokens k
first_strange n low =
    record {
      inside = low.inside;
      lowest = rw n.tokens (record { within = omega (arith, low.inside); earlier = low.earlier; found = λ h. low.holds });
    }

module _ {o : Outline} {table tokens : List ℕ} {cells : ℕ} where
  pub check_misfit : {a : Answer} {place : ℕ}
      → TableCheck o table (Some place)
      → a ≡ refusal refusals.table place 0
      → CheckedFor o table tokens cells (Err a)
  check_misfit misfits e = record { checked = λ g n stack all. rw e (bad_table (misfits.checked g n)) }

  module _ (fits : TableCheck o table None) where
    pub check_long : {a : Answer}
        → longest_string < length tokens
        → a ≡ refusal refusals.limit longest_string 0
        → CheckedFor o table tokens cells (Err a)
    check_long h e = record { checked = λ g n stack all. rw e (too_long (fits.checked g n) h) }

    module _ (short : length tokens ≤ longest_string) where
      pub check_strange : {a : Answer} {k : ℕ}
          → LowestAt (Strange o.tokens tokens) (length tokens) k
          → a ≡ refusal refusals.token k 0
          → CheckedFor o table tokens cells (Err a)
      check_strange low e =
          record { checked = λ g n stack all. rw e (strange (fits.checked g n) short (first_strange n low)) }

      module _ (none : (j : ℕ) → j < length tokens → ¬ Strange o.tokens tokens j) where
        pub check_no_stack : {a : Answer}
            → cells ≡ 0
            → a ≡ refusal refusals.room 0 refusals.stack_room
            → CheckedFor o table tokens cells (Err a)
        check_no_stack h e =
            record { checked = λ g n stack all. rw e (no_stack (fits.checked g n) short (known tokens n none) (all ∙ h)) }

        pub check_done : cells ≢ 0 → CheckedFor o table tokens cells (Ok tt)
        check_done other =
            record {
              checked = λ g n stack all.
                  record { fits = fits.checked g n; short = short; known = known tokens n none; stacked = omega arith };
            }
