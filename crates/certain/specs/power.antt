pub mod Numbers
pub mod Margins
pub mod Primal
pub mod Dual
pub mod Meaning
