pub mod Defaults
pub mod Recorded
