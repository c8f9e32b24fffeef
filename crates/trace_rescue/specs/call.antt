pub mod Rescue
pub mod Rescues
pub mod Unsealed
