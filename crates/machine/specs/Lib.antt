pub mod Machine
pub mod Room
pub mod Expansion
pub mod Stopping
pub mod Last
