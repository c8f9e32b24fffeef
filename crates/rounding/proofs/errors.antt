-- One rounded operation beside its exact value, any signs: a fraction rounded, a product, a quotient, a sum or difference. Then `<` by
-- signed units.
pub mod Rounded
pub mod Multiplied
pub mod Divided
pub mod Added
pub mod Ordered
