pub mod Refusals
pub mod Answers
pub mod Limits
pub mod Buffers
pub mod Lowest
pub mod Checks
