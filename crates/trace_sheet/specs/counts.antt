pub mod Counts
pub mod Sheet
pub mod Laws
