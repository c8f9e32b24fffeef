pub mod Operators
pub mod Numbers
pub mod Fields
pub mod Sizes
