pub mod Entries
pub mod Updates
