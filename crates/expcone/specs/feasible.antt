pub mod Weights
pub mod Primal
pub mod Dual
pub mod Feasible
