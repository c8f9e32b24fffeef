-- An edition's defaults (Defaults); a row of doubles, turn by turn (Rows); the parts of a record by its shape (Assembled); a record that is
-- found (Finding); record i of a trace (Numbered).
pub mod Defaults
pub mod Rows
pub mod Assembled
pub mod Finding
pub mod Numbered
pub mod Agree
