-- Rows place by place (Rows), the largest of several (Tops), the law of two groups (Groups), that the lines add up to the records (AddsUp),
-- closed cases (Cases).
pub mod Rows
pub mod Tops
pub mod Groups
pub mod AddsUp
pub mod Cases
