pub mod rerun
pub mod call
pub mod text
pub mod file
