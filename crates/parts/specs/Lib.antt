pub mod Places
pub mod Rows
pub mod Letters
pub mod Parts
pub mod Leading
pub mod Classes
pub mod Reading
pub mod Joins
