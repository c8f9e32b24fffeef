-- From the three parts to the whole text (Printing), from the bytes of files to the text (FromFiles), and that any two outcomes agree
-- (Agree).
pub mod Printing
pub mod FromFiles
pub mod Agree
