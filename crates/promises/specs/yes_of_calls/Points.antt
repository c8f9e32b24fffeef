-- Which points of a call Order 12 speaks of, and what it says of them: that the exact point lies inside its cone, of whatever kind, or that
-- its exact number is below zero. Whole numbers only. Definitions only.
use Rattle.std.specs.Prelude.{ℕ, ◌≤◌, ◌<◌, ◌≡◌, Bool, true, false, cond, List, T, length, Float}
use Rattle.std.specs.Float.{binary64}
use Rattle.std.specs.Float.Ieee.{fits}
use Rattle.std.specs.Float.Ieee.Positive.{num}
use Rattle.double.specs.Operators.{at}
use Rattle.series.specs.Series.{Signed}
use Rattle.series.specs.change.SignedArithmetic.{BelowZero}
use Rattle.cone.specs.declared.Cone.{Cone}
use Rattle.certain.specs.Coordinates.{InRange}
use Rattle.certain.specs.Primal as expPrimal
use Rattle.certain.specs.Dual as expDual
use Rattle.certain.specs.power.Primal as powPrimal
use Rattle.certain.specs.power.Dual as powDual
use Rattle.certain.specs.wide.Tests as wide
use Rattle.expcone.specs.feasible.Feasible as expcone
use Rattle.powcone.specs.Feasible as powcone
use Rattle.genpowcone.specs.Feasible as genpowcone
use Rattle.kinds.specs.Cones.{alpha_of, alphas_of}

-- ---- what a call has

-- `Float` holds the values of every format; the numbers of a call are doubles
abbrev pub AllDoubles : List Float → Type 0
AllDoubles xs = (i : ℕ) → i < length xs → T (fits binary64 (at xs i))

-- a cone of a call: 01, "32 exponent places", each a double
pub record Held (c : Cone) : Type 0 where
  pub places : length c.exps ≡ 32
  pub doubles : AllDoubles c.exps

-- 02, Order 12: "zero or between 2^-500 and 2^500 in size", each coordinate of the point
abbrev pub AllInRange : List Float → Type 0
AllInRange p = (i : ℕ) → i < length p → InRange (at p i)

-- ---- inside, by kind and side; true is the primal side

abbrev pub InsideExponential : Bool → List Float → Type 0
InsideExponential true s = expPrimal.Inside (at s 0) (at s 1) (at s 2)
InsideExponential false z = expDual.Inside (at z 0) (at z 1) (at z 2)

abbrev pub InsidePower : Bool → Float → List Float → Type 0
InsidePower true α s = powPrimal.Inside α (at s 0) (at s 1) (at s 2)
InsidePower false α z = powDual.Inside α (at z 0) (at z 1) (at z 2)

abbrev pub InsideGeneralized : Bool → List Float → List Float → Type 0
InsideGeneralized primal α p = wide.Inside (cond primal (wide.primal_logs α p) (wide.dual_logs α p)) α p

-- 02, Order 12: "the exact point is inside". The cone is of one of the three kinds, and the point lies inside the cone of that kind
pub record ExactlyInside (c : Cone) (primal : Bool) (p : List Float) : Type 0 where
  pub some_kind : (1 ≤ c.kind) × (c.kind ≤ 3)
  pub exponential : c.kind ≡ 1 → InsideExponential primal p
  pub power : c.kind ≡ 2 → InsidePower primal (alpha_of c) p
  pub generalized : c.kind ≡ 3 → InsideGeneralized primal (alphas_of c) p

-- ---- below zero, by kind and side, where the sign tests have passed

-- "s2·L(s3/s2) - s1", or "z2 - z1 - z1·L(-z3/z1)"
abbrev pub exponential_number : Bool → List Float → Signed
exponential_number true s = expPrimal.number (at s 0) (at s 1) (at s 2)
exponential_number false z = expDual.number (at z 0) (at z 1) (at z 2)

abbrev pub power_number : Bool → Float → List Float → Signed
power_number true α s = powPrimal.number α (at s 0) (at s 1) (at s 2)
power_number false α z = powDual.number α (at z 0) (at z 1) (at z 2)

abbrev pub generalized_number : Bool → List Float → List Float → Signed
generalized_number primal α p = wide.number (cond primal (wide.primal_logs α p) (wide.dual_logs α p)) α p

-- "A no given on the residue means the same number is below zero". In a power cone the number has L of the tail's square in it: the tail is
-- not 0
pub record BelowWall (c : Cone) (primal : Bool) (p : List Float) : Type 0 where
  pub exponential :
      c.kind ≡ 1 → cond primal (expcone.primal_signs p) (expcone.dual_signs p) ≡ true → BelowZero (exponential_number primal p)
  pub power : c.kind ≡ 2 → powcone.signs p ≡ true → (0 < num (at p 2)) × BelowZero (power_number primal (alpha_of c) p)
  pub generalized :
      c.kind ≡ 3 → genpowcone.signs (alphas_of c) p ≡ true
      → (0 < wide.over (alphas_of c) p) × BelowZero (generalized_number primal (alphas_of c) p)
