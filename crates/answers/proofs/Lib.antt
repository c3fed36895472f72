pub mod Unique
pub mod Checks
pub mod Lowest
pub mod Written
pub mod Promise
