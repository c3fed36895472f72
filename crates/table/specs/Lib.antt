pub mod Calls
pub mod Claims
pub mod Examples
pub mod Filling
pub mod Fitting
pub mod Table
pub mod Vacancy
