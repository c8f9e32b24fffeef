pub mod Held
pub mod Agree
