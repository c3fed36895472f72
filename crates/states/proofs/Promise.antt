-- What crates above cite of states: the page of results.
pub use Rattle.states.proofs.Theorems.{tables_lawful, rows_length, rows_token, end_lowest, end_none}
pub use Rattle.states.proofs.Theorems.{rows_unique, made_unique, made_outcome_unique, made_alike}
pub use Rattle.states.proofs.Theorems.{refused_unchanged}
pub use Rattle.states.proofs.Theorems.{found_reaches, too_many_iff}
pub use Rattle.states.proofs.Theorems.{row_leads, row_stops}
-- the cell of a byte in the row of a state
pub use Rattle.states.proofs.Rows.{rows_next}
