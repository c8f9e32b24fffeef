-- The folds of 002 over the head of a point and the exponents. Each runs over the shorter of its two lists, as the Rust's zip does.
-- Definitions only.
use Rattle.std.specs.Prelude.{ℕ, min, Bool, true, ◌&&◌, List, length, Float}
use Rattle.arith.specs.Turns.{iter}
use Rattle.double.specs.Operators.{◌⊕◌, ◌⊖◌, ◌⊗◌, ◌⊘◌, ◌≺◌, at}
use Rattle.double.specs.Numbers.{#0, #1, #2}
use Rattle.kernels.specs.Door.{log_of, powf_of}

-- every number is above 0; a NaN is not
abbrev pub above_zero_turn : List Float → ℕ → Bool → Bool
above_zero_turn xs i b = b && (#0 ≺ at xs i)

unfoldable pub all_above_zero : List Float → Bool
all_above_zero xs = iter (above_zero_turn xs) true (length xs)

-- 002 is_primal_feasible, the fold: Σ 2αᵢ·log sᵢ from +0
abbrev pub primal_log_turn : List Float → List Float → ℕ → Float → Float
primal_log_turn α s i t = t ⊕ #2 ⊗ at α i ⊗ log_of (at s i)

unfoldable pub primal_log_sum : List Float → List Float → Float
primal_log_sum α s = iter (primal_log_turn α s) #0 (min (length α) (length s))

-- 002 is_dual_feasible and barrier_dual, the fold: Σ 2αᵢ·log(zᵢ/αᵢ) from +0
abbrev pub dual_log_turn : List Float → List Float → ℕ → Float → Float
dual_log_turn α z i t = t ⊕ #2 ⊗ at α i ⊗ log_of (at z i ⊘ at α i)

unfoldable pub dual_log_sum : List Float → List Float → Float
dual_log_sum α z = iter (dual_log_turn α z) #0 (min (length α) (length z))

-- 002 barrier_dual, the second loop: log zᵢ·(1-αᵢ) taken off in turn
abbrev pub less_logs_turn : List Float → List Float → ℕ → Float → Float
less_logs_turn α z i t = t ⊖ log_of (at z i) ⊗ (#1 ⊖ at α i)

unfoldable pub less_logs : Float → List Float → List Float → Float
less_logs b α z = iter (less_logs_turn α z) b (min (length α) (length z))

-- 002 gradient_primal, unscaled phi: Π pᵢ^2αᵢ from 1, over the point's head p
abbrev pub primal_phi_turn : List Float → List Float → ℕ → Float → Float
primal_phi_turn α p i t = t ⊗ powf_of (at p i) (#2 ⊗ at α i)

unfoldable pub primal_phi : List Float → List Float → Float
primal_phi α p = iter (primal_phi_turn α p) #1 (min (length α) (length p))

-- 002 update_dual_grad_H, phi: Π (zᵢ/αᵢ)^2αᵢ from 1
abbrev pub dual_phi_turn : List Float → List Float → ℕ → Float → Float
dual_phi_turn α z i t = t ⊗ powf_of (at z i ⊘ at α i) (#2 ⊗ at α i)

unfoldable pub dual_phi : List Float → List Float → Float
dual_phi α z = iter (dual_phi_turn α z) #1 (min (length α) (length z))
