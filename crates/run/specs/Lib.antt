pub mod Accounting
pub mod Answering
pub mod Beside
pub mod Checking
pub mod Judged
pub mod Running
pub mod Tokens
