-- Floats first: what has no sign, what nothing is beyond, and what the kernels make of them; then each cone, then the choice by kind; and
-- the same of the calls.
pub mod Unsigned
pub mod Boundless
pub mod Told
pub mod Kernels
pub mod Sums
pub mod Exponential
pub mod Power
pub mod Generalized
pub mod Laws
pub mod Cases
pub mod Calls
