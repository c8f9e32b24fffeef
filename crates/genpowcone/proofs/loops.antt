pub mod Arrays
pub mod Turns
