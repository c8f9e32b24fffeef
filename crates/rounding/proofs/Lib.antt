-- The laws by subject: what a comparison says, the nearest whole number, relative error, order by units, products, what overflows.
pub mod Compared
pub mod Nearest
pub mod Relative
pub mod Units
pub mod Products
pub mod Overflow
