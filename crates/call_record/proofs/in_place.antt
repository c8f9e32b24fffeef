-- For each kind, what the entries answer is what `blocks`, `three`, `wide_primal` or `wide_kind` does.
pub mod ByKind
mod Agree
