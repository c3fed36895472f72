pub mod Numbers
pub mod Calls
pub mod Joined
pub mod Trail
pub mod Forms
pub mod Steps
pub mod Checks
pub mod Examples
