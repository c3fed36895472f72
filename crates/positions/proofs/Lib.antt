pub mod Tellings
pub mod Repetitions
pub mod Groups
pub mod Sequences
pub mod WholePatterns
