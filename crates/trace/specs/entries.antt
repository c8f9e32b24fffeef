pub mod Opened
pub mod Writing
pub mod Values
