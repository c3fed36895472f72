-- What crates above cite of bottom-up runs.
pub use Rattle.slr_run.proofs.Theorems.{slr_run_outcome_unique, slr_run_meets3, slr_run_steps_add, slr_run_depth}
pub use Rattle.slr_run.proofs.Theorems.{slr_run_before_steps, slr_run_any_ends, built_fits}
pub use Rattle.slr_run.proofs.Examples.{left_rows_lem}
