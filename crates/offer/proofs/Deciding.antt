-- The table as the code reads it, and what a symbol on top of the stack says to what comes next.
use Rattle.std.specs.Prelude.{Option, Some, None, Ok, Err}
use mathlib.Core.Path.{◌≡◌, refl, ap}
use mathlib.Core.Logic.{◌≢◌}
use mathlib.Core.Bool.{true, false}
use mathlib.Core.List.{List}
use Prim.Native.Nat.{ℕ, ◌+◌, ◌*◌, ◌≤◌, ◌<◌}
use native.Mathlib.Omega.{arith}
use Rattle.std.specs.Option.{option_eq}
use lib.Dec.{ltb, eqb}
use lib.ListN.{get_or}
use borrow.Author.Tests.{lt-ltb, le-ltb, eqb-true, eqb-false}
use Rattle.grammar.specs.Grammar.{Grammar, Column, token, endmark}
use Rattle.book.specs.Columns.{Outlines}
use Rattle.book.specs.declared.columns.Outline.{Outline}
use Rattle.table.specs.Table.{held, cell_of}
use Rattle.machine.specs.Machine.{meets}
use Rattle.machine.specs.declared.Reason.TheVariants.{WantsEnd}
use Rattle.stack.specs.Ahead.{column_in}
use Rattle.offer.specs.Moves.{Bottom, CellFacing}
use Rattle.offer.specs.declared.Move.TheVariants.{Accept}

-- the row is one of the grammar's
row_there : {o : Outline} (n : ℕ) → n < o.nonterminals → (g : Grammar) → Outlines o g → ltb n g.nonterminals ≡ true
row_there n row g sized = lt-ltb n g.nonterminals (rw sized.nonterminals row)

module _ {o : Outline} (table : List ℕ) {n : ℕ} where
  pub cell_no_row : (ahead : Option ℕ) → o.nonterminals ≤ n → CellFacing o table n ahead 255
  unfolding held cell_of
  cell_no_row ahead h = record { says = λ g sized. go g sized (column_in ahead) }
    where
      go : (g : Grammar) → Outlines o g → (c : Column) → held 255 ≡ cell_of g table n c
      go g sized (token t) = rw (le-ltb n g.nonterminals (rw sized.nonterminals h), cell_of)
      go g sized endmark = rw (le-ltb n g.nonterminals (rw sized.nonterminals h), cell_of)

  module _ {ahead : Option ℕ} (row : n < o.nonterminals) where
    pub cell_no_token : {t : ℕ} → ahead ≡ Some t → o.tokens ≤ t → CellFacing o table n ahead 255
    unfolding held cell_of column_in
    cell_no_token {t} e h =
        record { says = λ g sized. rw (e, row_there n row g sized, le-ltb t g.tokens (rw sized.tokens h), cell_of) }

    pub cell_token : {t r : ℕ}
        → ahead ≡ Some t
        → t < o.tokens
        → r ≡ get_or table (n * (o.tokens + 1) + t) 255
        → CellFacing o table n ahead r
    unfolding cell_of column_in
    cell_token {t} e h f =
        record {
          says = λ g sized. rw (e, f, row_there n row g sized, lt-ltb t g.tokens (rw sized.tokens h), cell_of, sized.tokens);
        }

    pub cell_end : {r : ℕ} → ahead ≡ None → r ≡ get_or table (n * (o.tokens + 1) + o.tokens) 255 → CellFacing o table n ahead r
    unfolding cell_of column_in
    cell_end e f = record { says = λ g sized. rw (e, f, row_there n row g sized, cell_of, sized.tokens) }

-- the token that comes next is this one
pub equal_meets : (a : Option ℕ) (t : ℕ) → option_eq eqb a (Some t) ≡ meets (column_in a) t
unfolding meets column_in
equal_meets None t = refl
equal_meets (Some s) t = refl

pub meets_true : (c : Column) (t : ℕ) → meets c t ≡ true → c ≡ token t
unfolding meets
meets_true (token s) t e = ap token (eqb-true s t e)
meets_true endmark t e = let bad : ◌≡◌ {A = ℕ} 0 1 = cc in absurd (omega arith)

pub meets_false : (c : Column) (t : ℕ) → meets c t ≡ false → c ≢ token t
unfolding meets
meets_false (token s) t e = λ f. let same : s ≡ t = cc in eqb-false s t e same
meets_false endmark t e = λ f. let bad : ◌≡◌ {A = ℕ} 0 1 = cc in omega arith

-- what comes next decides where the stack is empty
pub bottom_next : {a : Option ℕ} {t : ℕ} → a ≡ Some t → Bottom (column_in a) (Err WantsEnd)
unfolding column_in
bottom_next e = Bottom.left_over (ap column_in e)

pub bottom_end : {a : Option ℕ} → a ≡ None → Bottom (column_in a) (Ok Accept)
unfolding column_in
bottom_end e = Bottom.accepts (ap column_in e)
