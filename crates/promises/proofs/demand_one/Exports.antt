-- Demand 1 of the exports: what a contract allows is what the definition makes of which demand 1 is proved. Assumes nothing.
use mathlib.Core.Path.{sym, subst}
use Rattle.promises.specs.demand_one.Exports.{Refuses, OfExports}
use Rattle.promises.proofs.allowed.Defined.{as_defined}
use Rattle.promises.proofs.demand_one.Refusals.{demand_one}
use Rattle.promises.proofs.demand_one.Numbers.{only_these}

pub of_exports : OfExports
of_exports a o c = subst (Refuses a) (sym (as_defined a o c)) (record { refusal = demand_one a; in_row = only_these a })
