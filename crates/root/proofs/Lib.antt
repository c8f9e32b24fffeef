-- By subject: the whole part of a root, its rounding, the rounding over any number of digits, the turns of the loop, the number under the
-- root, the cases of `sqrt_of`,
-- doubles as multiples of their last place, middles of doubles by squares, the nearest double, the special cases, roots computed, and the
-- theorem.
pub mod WholeRoots
pub mod RoundedRoots
pub mod AnyWidth
pub mod DigitSteps
pub mod Radicands
pub mod Cases
pub mod Grid
pub mod Midpoints
pub mod Nearest
pub mod Specials
pub mod Values
pub mod Theorem
pub mod Agree
