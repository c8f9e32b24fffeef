-- Laws of records (Fields, Records) and of traces (Traces), of one record more (Appending,
-- Growing), of the list's entries (Entries), of the largest file (Limits), and the theorems (Inverses).
pub mod Fields
pub mod Records
pub mod Traces
pub mod Appending
pub mod Growing
pub mod Entries
pub mod Limits
pub mod Inverses
