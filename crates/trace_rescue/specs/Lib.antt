pub mod call
pub mod file
