pub mod Rivalry
pub mod Compared
pub mod Answering
pub mod Unique
pub mod Passing
pub mod Examples
pub mod Theorems
pub mod Promise
