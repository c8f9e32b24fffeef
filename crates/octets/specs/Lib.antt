pub mod words
pub mod equal_bytes
pub mod decimal
pub mod lines
