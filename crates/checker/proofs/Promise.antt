-- What crates above cite of the check of a table.
pub use Rattle.checker.proofs.Answering.{checked_outcome}
pub use Rattle.checker.proofs.Unique.{first_different_unique, check_outcome_unique, checked_with_first_unique}
pub use Rattle.checker.proofs.Passing.{check_passes, check_conflict, check_build}
