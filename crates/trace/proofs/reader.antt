-- A record that a reader finds lies in the trace (Places), and any two outcomes agree (Agree).
pub mod Places
pub mod Agree
