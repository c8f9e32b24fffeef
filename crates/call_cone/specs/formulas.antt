pub mod Rows
pub mod Equilibration
pub mod Entries
