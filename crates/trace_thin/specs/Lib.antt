pub mod firsts
pub mod call
pub mod file
