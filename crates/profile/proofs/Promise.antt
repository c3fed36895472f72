-- What crates above cite of the plain profile.
pub use Rattle.profile.proofs.Theorems.{plain_outcome_unique, plain_run_outcome_unique, plain_run_is_run}
