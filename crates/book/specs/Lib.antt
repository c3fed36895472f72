pub mod Closure
pub mod Columns
pub mod Examples
pub mod Judging
pub mod Served
pub mod Useful
