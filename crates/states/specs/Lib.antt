pub mod Machine
pub mod Making
pub mod Runs
pub mod Sets
pub mod Searching
pub mod Filling
