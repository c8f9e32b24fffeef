pub mod Calls
pub mod Refusals
pub mod Numbers
pub mod Exports
