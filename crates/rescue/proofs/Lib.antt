-- When the program asks for an edition (Asking).
pub mod Asking
