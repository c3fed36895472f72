-- What crates above cite of numbering, beside the page of results.
-- a place that holds something lies inside the list, and a list with something behind it
pub use Rattle.numbering.proofs.Places.{element, inside, at_append, at_last, at_cases}
-- a state is its own representative, and what is the same has the same number
pub use Rattle.numbering.proofs.Agreement.{is_itself, is_same}
-- what a cell of the rows holds
pub use Rattle.numbering.proofs.Rows.{moves_cell, cell_named}
-- what is found is what is reached, and there is one way of numbering it
pub use Rattle.numbering.proofs.Theorems.{found_reaches, found_unique, states_unique, too_many_excludes_whole}
pub use Rattle.numbering.proofs.Theorems.{too_many_iff, search_ends}
-- the search, cell by cell, and what each cell says of its row's state
pub use Rattle.numbering.proofs.Theorems.{found_nothing, found_begun, follows_at, turn_nothing, turn_met}
pub use Rattle.numbering.proofs.Theorems.{turn_new, cell_none}
-- what is found in one automaton is found in each that is like it
pub use Rattle.numbering.proofs.Theorems.{alike_back, found_all_alike, too_many_alike}
