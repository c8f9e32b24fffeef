pub mod Premises
pub mod Searches
pub mod Calls
