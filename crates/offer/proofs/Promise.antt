-- What crates above cite of offers.
pub use Rattle.offer.proofs.Answered.{Told, told, served, short_of_list, short_of_stack, blocked}
pub use Rattle.offer.proofs.Answered.{told_done, told_room, told_syntax, told_numbers, told_steps, told_depth}
pub use Rattle.offer.proofs.Answered.{short_room}
pub use Rattle.offer.proofs.Unique.{offer_outcome_unique, string_outcome_unique}
pub use Rattle.offer.proofs.Resumed.{reply_told}
