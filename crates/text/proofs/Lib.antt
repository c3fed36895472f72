pub mod Writing
pub mod Value
pub mod DecimalDigits
pub mod HexadecimalDigits
pub mod ReadingDigits
pub mod Examples
pub mod Promise
