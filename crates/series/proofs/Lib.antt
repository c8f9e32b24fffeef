-- The laws of S and L. The way in: Order (S grows, and how fast), Addition (S of a product), Written and SameFraction (L), SignedFractions
-- (bounds by L).
pub mod OddPowers
pub mod Growth
pub mod Terms
pub mod Addition
pub mod Order
pub mod Written
pub mod SameFraction
pub mod SignedFractions
pub mod Cases
