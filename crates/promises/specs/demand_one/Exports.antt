-- Demand 1 of the calls of include/spindle.h, whatever their callers pass: of every outcome that a contract allows. Statements;
-- proofs/demand_one/Exports has the proof.
use Rattle.std.specs.Prelude.{◌≡◌, true, ◌∷◌}
use Rattle.promises.specs.demand_one.Calls.{Call, Outcome, number_in}
use Rattle.promises.specs.demand_one.Refusals.{refused}
use Rattle.promises.specs.demand_one.Numbers.{numbers_of, among}
use Rattle.promises.specs.allowed.Allowed.{Allowed}

-- an outcome with another number than 0 is the refusal with that number; and the number stands in the call's row
pub record Refuses (a : Call) (o : Outcome) : Type 0 where
  pub refusal : (number_in o ≡ 0 → ⊥) → o ≡ refused a (number_in o)
  pub in_row : among (number_in o) (0 ∷ numbers_of a) ≡ true

-- of the 35 calls that can refuse, and of the eight over a record in place
abbrev pub OfExports : Type 0
OfExports = (a : Call) (o : Outcome) → Allowed a o → Refuses a o
