pub mod Buffers
pub mod Stacked
pub mod Replacing
pub mod Next
pub mod Sides
pub mod Calls
pub mod Unique
pub mod Promise
