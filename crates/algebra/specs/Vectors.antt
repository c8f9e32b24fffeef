-- Sums, norms and combinations of lists of numbers, over any length. Definitions only.
use Rattle.std.specs.Prelude.{ℕ, min, cond, List, [], ◌∷◌, length, pos, Float}
use Rattle.std.specs.Float.{binary64}
use Rattle.std.specs.Float.Ieee.{eq, of_int}
use Rattle.arith.specs.Turns.{iter}
use Rattle.double.specs.Operators.{◌⊕◌, ◌⊖◌, ◌⊗◌, ◌⊘◌, at}
use Rattle.double.specs.Numbers.{#0, #1}
use Rattle.kernels.specs.Door.{sqrt_of}

-- 01: "Dot, sum and sumsq run left to right from +0". A sum's turn i adds its term i; dot runs over the shorter list
abbrev pub dot_turn : List Float → List Float → ℕ → Float → Float
dot_turn xs ys i t = t ⊕ at xs i ⊗ at ys i

unfoldable pub dot_of : List Float → List Float → Float
dot_of xs ys = iter (dot_turn xs ys) #0 (min (length xs) (length ys))

abbrev pub sum_turn : List Float → ℕ → Float → Float
sum_turn xs i t = t ⊕ at xs i

unfoldable pub sum_of : List Float → Float
sum_of xs = iter (sum_turn xs) #0 (length xs)

abbrev pub sumsq_turn : List Float → ℕ → Float → Float
sumsq_turn xs i t = t ⊕ at xs i ⊗ at xs i

unfoldable pub sumsq_of : List Float → Float
sumsq_of xs = iter (sumsq_turn xs) #0 (length xs)

-- 01: "Norm is the root of sumsq"
unfoldable pub norm_of : List Float → Float
norm_of xs = sqrt_of (sumsq_of xs)

-- 01: "mean is sum/n"
unfoldable pub mean_of : List Float → Float
mean_of xs = sum_of xs ⊘ of_int binary64 (pos (length xs))

-- 000 and 001 compute_barrier, cur_z and cur_s; 003 waxpby with the factor 1: x + a·dx, place by place, over the shorter list
unfoldable pub moved_of : List Float → Float → List Float → List Float
moved_of [] a dx = []
moved_of (x ∷ xs) a [] = []
moved_of (x ∷ xs) a (d ∷ dx) = x ⊕ a ⊗ d ∷ moved_of xs a dx

-- 000 and 001 combined_ds_shift: grad·σμ - η, three components
unfoldable pub shift_of : List Float → Float → List Float → List Float
shift_of grad σμ η = at grad 0 ⊗ σμ ⊖ at η 0 ∷ at grad 1 ⊗ σμ ⊖ at η 1 ∷ at grad 2 ⊗ σμ ⊖ at η 2 ∷ []

-- 01: "normalize multiplies by 1/norm and does nothing at norm 0". Three components
unfoldable pub normalize_of : List Float → List Float
normalize_of x =
    let norm = norm_of x in
    let c = #1 ⊘ norm in
    cond (eq norm #0) x (at x 0 ⊗ c ∷ at x 1 ⊗ c ∷ at x 2 ⊗ c ∷ [])
