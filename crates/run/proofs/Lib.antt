pub mod OutcomeUnique
pub mod OnReading
pub mod Expected
pub mod Checks
pub mod RunAnswers
pub mod Promise
