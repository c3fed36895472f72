-- What crates above cite of expansions.
pub use Rattle.expand.proofs.Answered.{ToldBy, told_by, finished, misfitting, out_of_stack, out_of_output}
pub use Rattle.expand.proofs.Answered.{told_complete, told_unfit, told_with_room, told_kinds, told_moves}
pub use Rattle.expand.proofs.Answered.{told_height}
pub use Rattle.expand.proofs.Answered.{complete_done, unfit_refused}
pub use Rattle.expand.proofs.OutcomeUnique.{expand_outcome_unique}
