pub mod Vectors
pub mod Packed
pub mod Cholesky
pub mod newton
