pub mod Calls
pub mod Examples
pub mod Listing
pub mod Writing
