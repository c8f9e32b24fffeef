-- 01: "Every public function has a contract that determines its answer, its record and each lent slice for all inputs, refused ones too."
-- Of all calls that can refuse: what a contract allows is what the call's definition makes. Statements only; proofs/allowed/Defined proves
-- them.
use Rattle.std.specs.Prelude.{◌≡◌}
use Rattle.promises.specs.demand_one.Calls.{Call, Outcome, made}
use Rattle.promises.specs.allowed.Allowed.{Allowed}

abbrev pub AsDefined : Type 0
AsDefined = (a : Call) (o : Outcome) → Allowed a o → o ≡ made a

-- 01: "For each, show that any two outcomes allowed by it agree". A call by value and one in place over the same record agree, too
abbrev pub AllAgree : Type 0
AllAgree = (a : Call) (o p : Outcome) → Allowed a o → Allowed a p → o ≡ p
