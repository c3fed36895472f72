pub mod Reply
pub mod Moves
pub mod Offering
pub mod Resuming
pub mod Stops
pub mod Strings
