-- A call that its rows let through and whose answer is chosen by a test. Assumes nothing.
use mathlib.Core.Path.{◌≡◌, ◌∙◌}
use mathlib.Core.Bool.{Bool, true, false, cond}
use Prim.Native.Nat.{ℕ}
use Rattle.arith.proofs.Branches.{taken, left}
use Rattle.cone.specs.table.Table.{settle}
use Rattle.cone.proofs.table.Settled.{done}

module _ {A : Type 0} {b : Bool} {x a : A} (k r : ℕ) (other : A) (f : ℕ → A) (e : r ≡ k) (z : r ≡ 0) where
  pub done_taken : b ≡ true → x ≡ a → x ≡ settle k (cond b a other) f
  done_taken t p = taken other t p ∙ done k r (cond b a other) f e z

  pub done_left : b ≡ false → x ≡ a → x ≡ settle k (cond b other a) f
  done_left t p = left other t p ∙ done k r (cond b other a) f e z
