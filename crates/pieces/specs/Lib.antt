pub mod Cut
pub mod Laid
pub mod Meanings
pub mod Rows
pub mod Calls
pub mod Moves
pub mod Examples
