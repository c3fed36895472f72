-- The starred examples of this layer: H with its sets and its table, the conflicts of H1 and J, and the useless nonterminal of I.
use mathlib.Core.Path.{refl}
use mathlib.Core.List.{List}
use Prim.Native.Nat.{ℕ, ◌≤◌}
use lib.Dec.{lit<}
use lib.ListN.{length}
use Rattle.grammar.specs.House.{house}
use Rattle.grammar.proofs.Tests.{below}
use Rattle.grammar.proofs.Worked.{first_test, follow_test}
use Rattle.grammar.proofs.WorkedForm.{form_test}
use Rattle.grammar.proofs.WorkedUseful.{productives, has}
use Rattle.grammar.proofs.House.{house_cell, house_exact, house_no_conflict}
use Rattle.answers.specs.Answers.{done, refusal}
use Rattle.answers.specs.Buffers.{over}
use Rattle.reader.specs.Book.{wanted, marked, symbol_of, symbols, records, ending, spells}
use Rattle.book.specs.Judging.{Serves}
use Rattle.book.specs.Examples.{house_book}
use Rattle.book.proofs.Promise.{house_serves}
use Rattle.table.specs.Table.{TableOf, FirstConflict, BuiltWithoutConflict}
use Rattle.table.specs.Calls.{BuildOutcome, conflict, served}
use Rattle.first.specs.Examples.{house_first_sets}
use Rattle.follow.specs.Examples.{house_follow_sets}
use Rattle.table.specs.Examples.{house_table, conflicted_house_book, conflicted_house, nested_book, nested_grammar}
use Rattle.first.proofs.Promise.{house_first_sets_lem}
use Rattle.follow.proofs.Promise.{house_follow_sets_lem}
use Rattle.table.proofs.Worked.{table_test, table_tested, claim_test, others_test, earlier_test, worked_first, worked_follow}
use Rattle.table.proofs.Worked.{worked_useful, useful_tested, conflict_tested}

-- the house's table is the one that 01 lists
pub house_table_of : TableOf house house_table
unfolding house house_cell house_table table_test
house_table_of = table_tested house house_exact house_table refl tt

unfoldable pub house_built : BuiltWithoutConflict house_book house_table
house_built = record { grammar = house; serves = house_serves; no_conflict = house_no_conflict; built = house_table_of }

pub house_build : {first follow table : List ℕ} → 4 ≤ length first → 4 ≤ length follow → 20 ≤ length table
    → BuildOutcome house_book first follow table (done 0) (over house_first_sets first) (over house_follow_sets follow) (over house_table table)
unfolding house
house_build a b c = served house_serves (record { first_fits = a; follow_fits = b }) c house_first_sets_lem house_follow_sets_lem house_table_of

-- H1: building gives 8, place 12, detail 515
pub conflicted_house_serves : Serves conflicted_house_book conflicted_house
unfolding spells marked wanted records symbols symbol_of ending conflicted_house_book conflicted_house has productives worked_useful below
conflicted_house_serves = record { read = refl; useful = useful_tested conflicted_house 4 tt tt }

pub conflicted_house_conflict : FirstConflict conflicted_house 12 2 3
unfolding conflicted_house form_test has productives worked_useful below first_test follow_test worked_first worked_follow claim_test others_test earlier_test
conflicted_house_conflict = conflict_tested conflicted_house 4 tt tt tt tt tt 12 2 3 (lit< tt) (lit< tt) tt tt tt tt

pub conflicted_house_build : {first follow table : List ℕ} → 4 ≤ length first → 4 ≤ length follow → 20 ≤ length table
    → BuildOutcome conflicted_house_book first follow table (refusal 8 12 515) first follow table
unfolding conflicted_house
conflicted_house_build a b c = conflict conflicted_house_serves (record { first_fits = a; follow_fits = b }) c conflicted_house_conflict

-- J: building gives 8, place 1, detail 1
pub nested_serves : Serves nested_book nested_grammar
unfolding spells marked wanted records symbols symbol_of ending nested_book nested_grammar has productives worked_useful below
nested_serves = record { read = refl; useful = useful_tested nested_grammar 4 tt tt }

pub nested_conflict : FirstConflict nested_grammar 1 0 1
unfolding nested_grammar form_test has productives worked_useful below first_test follow_test worked_first worked_follow claim_test others_test earlier_test
nested_conflict = conflict_tested nested_grammar 4 tt tt tt tt tt 1 0 1 (lit< tt) (lit< tt) tt tt tt tt

pub nested_build : {first follow table : List ℕ} → 2 ≤ length first → 2 ≤ length follow → 6 ≤ length table
    → BuildOutcome nested_book first follow table (refusal 8 1 1) first follow table
unfolding nested_grammar
nested_build a b c = conflict nested_serves (record { first_fits = a; follow_fits = b }) c nested_conflict
