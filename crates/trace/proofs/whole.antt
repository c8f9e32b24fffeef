-- Laws of the walk (Whole), its turns (Walking), the theorems (Longest), and that any two outcomes agree (Agree).
pub mod Whole
pub mod Walking
pub mod Longest
pub mod Agree
