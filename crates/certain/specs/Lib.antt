pub mod Coordinates
pub mod Primal
pub mod Dual
pub mod Meaning
pub mod power
pub mod wide
