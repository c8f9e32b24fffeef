pub mod Judges
pub mod Refusals
pub mod cone_judge
