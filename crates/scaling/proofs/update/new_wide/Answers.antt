-- `new_wide` puts z and mu beside what update_dual_grad_H makes. Assumes nothing.
use mathlib.Core.Path.{◌≡◌}
use mathlib.Core.List.{List}
use Prim.Native.Nat.{ℕ, ◌+◌, ◌≤◌}
use native.Mathlib.Omega.{arith}
use lib.Ieee.{Float}
use lib.ListN.{length, take}
use Rattle.judges.proofs.Lengths.{used_length}
use Rattle.scaling.specs.Updates.{new_wide}
use borrow.Author.Rules.{rules}
use Rattle.scaling.proofs.update.new_wide.Goals as goal

-- the exponents in use beside a point of their dims
point_fits : (n m : ℕ) (exps z : List Float) {α : List Float} → (n ≤ 32) × (m ≤ 32) × (length z ≡ n + m) → length exps ≡ 32
    → α ≡ take n exps
    → (length α ≤ 32) × (length z ≤ length α + 32)
point_fits n m exps z p l e =
    let u = used_length n exps l p.0 e in
    (omega (arith, u, p.0), omega (arith, u, p.1, p.2))

pub update_dual_grad_h-requires : goal.update_dual_grad_h-requires
update_dual_grad_h-requires c =
    point_fits _ c.args.cone.now.dim2 _ c.args.z.now c.requires (search rules) c.head.ensures

pub returns-in_err-dual : goal.returns-in_err-dual
unfolding new_wide
returns-in_err-dual c =
    rw (c.from_residual.ensures, ← c.head.ensures, ← c.update_dual_grad_h.ensures, c.in_err-dual.was)

pub returns : goal.returns
unfolding new_wide
returns c =
    rw (
      c.wide_at.ensures,
      c.wide_of.ensures,
      ← c.head.ensures,
      ← c.update_dual_grad_h.ensures,
      c.in_ok-dual.was,
    )
