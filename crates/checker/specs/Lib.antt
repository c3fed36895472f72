pub mod Calls
pub mod Checking
pub mod Examples
