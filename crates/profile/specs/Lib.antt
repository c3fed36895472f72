pub mod Breaking
pub mod Entering
pub mod Plain
pub mod Examples
