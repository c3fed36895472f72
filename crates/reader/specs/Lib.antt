pub mod Book
pub mod Faults
pub mod Fields
pub mod Verdicts
pub mod Positional
pub mod Reader
