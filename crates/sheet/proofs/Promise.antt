-- What crates above cite of sheets.
pub use Rattle.sheet.proofs.Outcomes.{write_outcome_unique, read_outcome_unique}
pub use Rattle.sheet.proofs.Trips.{read_steps, write_steps, sheet_book_sheet, book_sheet_book}
pub use Rattle.sheet.proofs.Longest.{longest_sheet_lem, longest_counted}
pub use Rattle.sheet.proofs.Within.{fault_within, announced_fewer}
