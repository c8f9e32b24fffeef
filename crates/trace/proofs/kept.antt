-- A done append (Appended), a trace made by calls (Made), the values that are read back (Doubles, Kept), the same of what callers call
-- (Calls), and records that are put and sealed (Sealed).
pub mod Doubles
pub mod Appended
pub mod Made
pub mod Kept
pub mod Calls
pub mod Sealed
