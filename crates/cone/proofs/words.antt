-- The laws by subject: the places that are read, a cone read back from its words, and that outcomes agree.
pub mod Words
pub mod Agree
