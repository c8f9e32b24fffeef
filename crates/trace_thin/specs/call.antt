pub mod Thin
pub mod Thins
