pub mod Sets
pub mod Calls
pub mod Words
pub mod Joining
