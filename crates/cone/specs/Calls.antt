-- What rows 1 and 2 of the table leave of a call. Definitions only.
use Rattle.std.specs.Prelude.{◌+◌, ◌≤◌, ◌≡◌, List, Float, length}
use Rattle.cone.specs.declared.Cone.{Cone}

-- of kind 3: the places of the arrays suffice
pub record WideCall (c : Cone) (z : List Float) : Type 0 where
  pub dims : c.kind ≡ 3 → (c.dim1 ≤ 32) × (c.dim2 ≤ 32)
  pub sized : c.kind ≡ 3 → length z ≡ c.dim1 + c.dim2
