-- Leaves first: the coefficients and borders are computed tests, Horner and Remainder carry them to the sum and to the rest, Bound puts
-- them together. Polynomials, CutSums and NearSums show that the estimate by which the code rounds a sum is near it.
pub mod Coefficients
pub mod Horner
pub mod Polynomials
pub mod CutSums
pub mod NearSums
pub mod Borders
pub mod Remainder
pub mod Shifts
pub mod Ends
pub mod Places
pub mod Cases
pub mod Fractions
pub mod Bound
pub mod AsWritten
pub mod Agree
