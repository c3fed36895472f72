-- What crates above cite of cutting by patterns.
pub use Rattle.cut.proofs.Alike.{states_lawful, tables_alike}
pub use Rattle.cut.proofs.Exact.{rows_exact, cut_exact, bytes_of, bytes_parts}
pub use Rattle.cut.proofs.Unique.{machine_unique, cut_outcome_unique}
pub use Rattle.cut.proofs.Outcomes.{refused_or_cut, early_or_line, was_cut}
pub use Rattle.cut.proofs.Outcomes.{refused_unchanged, cut_below, outcome_keeps_all, outcome_ends}
pub use Rattle.cut.proofs.Again.{cut_with_beginning, cut_with_cut}
pub use Rattle.cut.proofs.Reaching.{states_after, row_after}
pub use Rattle.cut.proofs.Many.{too_many_iff}
pub use Rattle.cut.proofs.Existing.{cut_outcome_exists}
