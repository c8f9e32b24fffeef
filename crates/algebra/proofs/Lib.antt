pub mod Three
pub mod Mapped
pub mod Moved
pub mod Agree
