pub mod Numbering
pub mod Example
