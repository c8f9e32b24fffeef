pub mod counts
pub mod one_file
pub mod rows
pub mod lines
pub mod text
