pub mod Appended
pub mod Made
pub mod Kept
pub mod Sealed
