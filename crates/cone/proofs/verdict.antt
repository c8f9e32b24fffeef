pub mod Margins
pub mod Agree
