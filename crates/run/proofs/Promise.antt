-- What crates above cite of runs.
pub use Rattle.run.proofs.OutcomeUnique.{Result, run_outcome_unique, beside_outcome_unique}
pub use Rattle.run.proofs.OnReading.{judged_run_unique, shown_unique, judged_run_run}
pub use Rattle.run.proofs.Checks.{tokens_checked_unique, tokens_barred}
pub use Rattle.run.proofs.OutcomeUnique.{first_strange_unique, first_above_unique}
pub use Rattle.run.proofs.Expected.{with_marks}
