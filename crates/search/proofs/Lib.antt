-- The laws by subject: points, settings that are not refused, that no NaN is handed back, and that outcomes agree.
pub mod Points
pub mod Settings
pub mod NoNan
pub mod Agree
