pub mod Ahead
pub mod Sides
pub mod Stack
