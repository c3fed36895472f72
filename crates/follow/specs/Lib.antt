pub mod Families
pub mod Calls
pub mod WorkedOut
pub mod Walks
pub mod Checks
pub mod Examples
