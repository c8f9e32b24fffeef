-- Laws of rows of bytes: one number and a row of them (Words), a layout of several rows (Runs), the turns of the
-- loops that read and write a number (Loops), rows stored one behind the other (Stores), and the outcomes (Agree).
pub mod Words
pub mod Runs
pub mod Loops
pub mod Stores
pub mod Agree
