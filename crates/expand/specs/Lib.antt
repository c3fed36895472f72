pub mod Expanding
pub mod Turns
