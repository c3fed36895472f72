pub mod Calls
pub mod Promised
pub mod Examples
pub mod Gathering
