pub mod Leading
pub mod Gathering
pub mod Unique
pub mod Promise
