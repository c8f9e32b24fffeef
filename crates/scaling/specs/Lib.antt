pub mod Scalings
pub mod Updates
pub mod primal_dual
