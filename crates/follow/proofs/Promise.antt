-- What crates above cite of FOLLOW and lookaheads.
pub use Rattle.follow.proofs.Closed.{lookahead_is}
pub use Rattle.follow.proofs.Unique.{lookaheads_unique}
pub use Rattle.follow.proofs.Outcomes.{room_not_fit, NoRoom, no_room_unique, kept_unique}
pub use Rattle.follow.proofs.Outcomes.{sets_outcome_unique, lookahead_outcome_unique, worked_out_unique}
pub use Rattle.follow.proofs.Served.{sets_roomed_unique, sets_roomed_after_unique, given_lacking, given_fit, family_written}
pub use Rattle.follow.proofs.Examples.{house_follow_sets_lem}
