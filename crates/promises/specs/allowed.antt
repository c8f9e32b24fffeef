pub mod InPlace
pub mod Allowed
pub mod Defined
