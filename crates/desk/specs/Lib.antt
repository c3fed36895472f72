pub mod Desk
pub mod Demands
pub mod Plain
