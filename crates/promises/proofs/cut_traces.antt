-- A cut record is none, and list and trailer begin with zeros (Cuts); the lengths of the two layouts differ by four modulo eight (Editions);
-- the same of the calls (Calls).
pub mod Cuts
pub mod Editions
pub mod Calls
