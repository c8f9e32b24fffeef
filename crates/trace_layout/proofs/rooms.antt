-- Any two outcomes agree (Agree).
pub mod Agree
