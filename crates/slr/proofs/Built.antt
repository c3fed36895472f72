-- Tables built from books: what every theorem promises of them, and two that were.
use mathlib.Core.Path.{◌≡◌, refl, subst}
use mathlib.Core.List.{List}
use Prim.Native.Nat.{ℕ, ◌<◌}
use native.Mathlib.Omega.{arith}
use lib.Dec.{lit≤}
use Rattle.grammar.specs.Grammar.{Grammar, Useful, WellFormed}
use Rattle.grammar.specs.House.{house}
use Rattle.reader.specs.Book.{reads, spells, marked, wanted, records, symbols, symbol_of, ending}
use Rattle.book.specs.Examples.{house_book}
use Rattle.book.specs.Judging.{Serves}
use Rattle.book.proofs.Promise.{serves_limits, serves_unique, house_serves}
use Rattle.slr.specs.States.{NumberedStates}
use Rattle.slr.specs.Actions.{ExactActions}
use Rattle.slr.specs.Cells.{action_in, move_in, SlrTableOf}
use Rattle.slr.specs.Examples.{left_grammar, left_paths, left_table, house_paths, house_table}
use Rattle.slr.specs.Built.{SlrBuilt, left_book}
use Rattle.slr.proofs.Worked.{worked_useful_lem, worked_numbered, worked_table}
use Rattle.slr.proofs.Cells.{table_exact}
use Rattle.slr.proofs.TableUnique.{table_unique}
use Rattle.slr.proofs.Example.{left_worked, left_numbered, left_table_lem}
use Rattle.slr.proofs.House.{house_worked}

module _ {book table : List ℕ} (built : SlrBuilt book table) where
  pub slr_built_formed : WellFormed built.grammar
  slr_built_formed = (serves_limits built.serves).well_formed

  -- what a built table says is exact
  pub slr_built_exact : let g = built.grammar in ExactActions g built.paths (action_in g table) (move_in g table)
  slr_built_exact =
      table_exact slr_built_formed (omega (arith, built.few))
      (omega (arith, (serves_limits built.serves).productions_fit)) built.table_of

-- a book has one built table at most
pub slr_built_unique : {book table table' : List ℕ} → SlrBuilt book table → SlrBuilt book table' → table ≡ table'
slr_built_unique {table' = table'} one other =
    let same : other.grammar ≡ one.grammar = serves_unique other.serves one.serves in
    let numbered : NumberedStates one.grammar other.paths =
    subst (λ (g : Grammar). NumberedStates g other.paths) same other.numbered in
    let made : SlrTableOf one.grammar other.paths table' =
    subst (λ (g : Grammar). SlrTableOf g other.paths table') same other.table_of in
    table_unique one.numbered numbered one.table_of made

left_reads : spells left_book ≡ reads left_grammar
unfolding spells marked wanted records symbols symbol_of ending left_book left_grammar
left_reads = refl

left_useful : (A : ℕ) → A < left_grammar.nonterminals → Useful left_grammar A
left_useful = worked_useful_lem left_grammar 3 left_paths left_table left_worked

-- the textbook's book serves its grammar
pub left_serves : Serves left_book left_grammar
left_serves = record { read = left_reads; useful = record { useful = left_useful } }

-- and the textbook's table is built from it
pub left_built : SlrBuilt left_book left_table
unfolding left_paths
left_built =
    record {
      grammar = left_grammar;
      serves = left_serves;
      paths = left_paths;
      numbered = left_numbered;
      few = lit≤ tt;
      table_of = left_table_lem;
    }

-- and so is that of H
pub house_built : SlrBuilt house_book house_table
unfolding house_paths
house_built =
    record {
      grammar = house;
      serves = house_serves;
      paths = house_paths;
      numbered = worked_numbered house 3 house_paths house_table house_worked;
      few = lit≤ tt;
      table_of = worked_table house 3 house_paths house_table house_worked;
    }
