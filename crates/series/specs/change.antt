pub mod Distances
pub mod SignedArithmetic
