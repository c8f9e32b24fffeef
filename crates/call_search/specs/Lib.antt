pub mod Rows
pub mod single
pub mod plans
