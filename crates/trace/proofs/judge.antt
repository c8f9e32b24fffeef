-- The turns of the walk over the records (Walking); what the judge computes is what the definitions say (Opening).
pub mod Walking
pub mod Opening
pub mod Agree
