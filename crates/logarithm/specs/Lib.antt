pub mod Steps
pub mod Estimates
pub mod Bound
pub mod table
