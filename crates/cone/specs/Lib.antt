pub mod Codes
pub mod Fresh
pub mod Points
pub mod Lent
pub mod Calls
pub mod words
pub mod verdict
pub mod table
