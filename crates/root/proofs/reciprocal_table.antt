-- EstimateRule: each entry is close on its whole interval.
pub mod EstimateRule
