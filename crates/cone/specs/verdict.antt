pub mod Answers
pub mod Margins
pub mod Residues
