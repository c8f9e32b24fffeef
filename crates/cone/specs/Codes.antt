-- What the codes of a call mean: a cone's kind, and how many numbers a point and a block then have; the strategy. Definitions only.
use Rattle.std.specs.Prelude.{ℕ, ◌+◌, Bool, cond, eqb}
use Rattle.cone.specs.declared.Cone.{Cone}

-- Whether a kind is the generalized one: its points have dim1 + dim2 numbers and its records keep those of `Wide`; the points of the
-- others have three, and their records keep those of `Three`
abbrev pub is_wide : ℕ → Bool
is_wide kind = eqb kind 3

-- the choice by a cone's kind: 1 exponential, 2 power, 3 generalized, and what stands for no kind
abbrev pub by_kind : {A : Type 0} → ℕ → A → A → A → A → A
by_kind kind one two three none = cond (eqb kind 1) one (cond (eqb kind 2) two (cond (is_wide kind) three none))

-- 01: "a lent slice has another length than needed (3, 6 for a packed block, or dim1+dim2)". That of a point
unfoldable pub numel_of : Cone → ℕ
numel_of c = cond (is_wide c.kind) (c.dim1 + c.dim2) 3

-- and of a block
unfoldable pub block_of : Cone → ℕ
block_of c = cond (is_wide c.kind) (c.dim1 + c.dim2) 6

-- 01: "strategy code neither 1 (dual) nor 2 (primal-dual)"
abbrev pub dual : ℕ
dual = 1

abbrev pub primal_dual : ℕ
primal_dual = 2
