pub mod TurnChoice
pub mod Unrolling
pub mod ExpandAnswers
pub mod Answered
pub mod OutcomeUnique
pub mod Promise
