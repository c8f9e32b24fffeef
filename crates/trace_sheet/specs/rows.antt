pub mod Added
pub mod Rows
pub mod Sums
