-- The premises meet the tests of the table (Premises); so the definitions of the four searches are not refused, and meet demand 3
-- (Searches); and so do the exports, whatever their callers pass (Calls).
pub mod Premises
pub mod Searches
pub mod Calls
