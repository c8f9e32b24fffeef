-- The law of the two halves of a product, and why three partial products give them, and four; which differences `left` tells.
pub mod Products
pub mod Differences
pub mod PartialProducts
pub mod Agree
