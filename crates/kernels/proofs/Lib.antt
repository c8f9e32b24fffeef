pub mod PowfCases
pub mod Agree
