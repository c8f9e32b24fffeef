pub mod formulas
pub mod feasibility
pub mod copies
