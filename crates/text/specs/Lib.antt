pub mod Text
pub mod Numeral
pub mod Reading
