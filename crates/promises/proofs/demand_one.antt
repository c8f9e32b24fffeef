-- A refusal is the literal one of specs/demand_one/Refusals (Refusals); the unit start is finite (UnitStart); the numbers that a call can
-- give are those of its row (Numbers), and each of these but 6 and 7 is given (Given); the first two of the exports' contracts (Exports).
pub mod Refusals
pub mod UnitStart
pub mod Numbers
pub mod Given
pub mod Exports
