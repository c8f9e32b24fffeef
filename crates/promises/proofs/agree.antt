pub mod Exports
pub mod Lent
pub mod Roots
