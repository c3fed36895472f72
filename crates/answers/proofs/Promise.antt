-- What crates above cite of answers.
pub use Rattle.answers.proofs.Unique.{Unique, either_unique}
pub use Rattle.answers.proofs.Lowest.{lowest_unique, Searched, search_begun, search_next}
pub use Rattle.answers.proofs.Lowest.{search_some, search_none, first_failing_unique}
pub use Rattle.answers.proofs.Lowest.{lowest_or_count, fails_some}
pub use Rattle.answers.proofs.Checks.{tested_unique, checked_then, checked_unique, checked_first, roomed_unique, roomed_after_unique}
pub use Rattle.answers.proofs.Written.{written_all}
