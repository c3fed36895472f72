-- What crates above cite of tables.
pub use Rattle.table.proofs.Cells.{column_number, cell_number, row_numbered, column_at_numbered, cell_inside}
pub use Rattle.table.proofs.Cells.{row_inside, cell_there, table_exact, built_exact, conflict_cell}
pub use Rattle.table.proofs.Claimed.{get_d_inside, claims_indexed}
pub use Rattle.table.proofs.Unique.{table_unique, held_unique, first_conflict_unique}
pub use Rattle.table.proofs.Outcomes.{build_outcome_unique, WithTable, build_with_room}
pub use Rattle.table.proofs.Unique.{cell_unique, conflict_no_table}
pub use Rattle.table.proofs.Building.{table_no_conflict, first_is_conflict, conflict_iff, conflict_first}
pub use Rattle.table.proofs.Building.{build_built, built_build, built_done}
pub use Rattle.table.proofs.TableFits.{held_vacant, held_filled, row_fits, misfit_not_fit, misfit_unique}
pub use Rattle.table.proofs.TableFits.{table_fits, fitting_unique, cell_at_unique}
pub use Rattle.table.proofs.Vacant.{vacancy_unique, taken_sized, taken_vacant}
pub use Rattle.table.proofs.Answering.{given_size, given_most, cells_fit}
pub use Rattle.table.proofs.Examples.{house_table_of, house_build, conflicted_house_serves}
pub use Rattle.table.proofs.Examples.{conflicted_house_conflict, conflicted_house_build, nested_conflict}
pub use Rattle.table.proofs.Examples.{nested_build}
pub use Rattle.table.proofs.Examples.{nested_serves}
unfoldable pub use Rattle.table.proofs.Examples.{house_built}
pub use Rattle.table.proofs.Worked.{useful_tested, first_tested, follow_tested, table_tested}
unfoldable pub use Rattle.table.proofs.Worked.{worked_first, worked_follow, worked_useful, table_test}
