pub mod Serials
pub mod Calls
