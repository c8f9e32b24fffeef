pub mod Whole
pub mod Longest
