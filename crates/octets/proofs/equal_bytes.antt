-- The test says yes of equal rows alone (Equality), the turn of the number's loop (Turns), and any two outcomes agree (Agree).
pub mod Equality
pub mod Turns
pub mod Agree
