pub mod Units
pub mod Within
pub mod errors
