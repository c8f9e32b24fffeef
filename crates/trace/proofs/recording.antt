-- What the code judges by numbers is what the definitions judge by records (Judging), and any two outcomes agree (Agree).
pub mod Judging
pub mod Agree
