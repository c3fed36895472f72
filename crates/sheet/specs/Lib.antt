pub mod Sheet
pub mod Calls
pub mod Form
pub mod Examples
pub mod Writing
pub mod Judging
pub mod Booking
