pub mod Patterns
pub mod Calls
pub mod Examples
pub mod Promised
pub mod Preparing
