-- Parts of a record's arrays fit the arrays that a formula fills. Assumes nothing.
use mathlib.Core.Path.{◌≡◌, ◌∙◌, ap}
use mathlib.Core.List.{List}
use Prim.Native.Nat.{ℕ, ◌+◌, ◌≤◌}
use native.Mathlib.Omega.{arith}
use lib.Ieee.{Float}
use lib.ListN.{length, take, length-take}

-- a part of at most 32 places beside a count
pub part_fits : (n m : ℕ) (d : List Float) {t : List Float} → n ≤ 32 → m ≤ 32 → t ≡ take n d → length t + m ≤ 64
part_fits n m d hn hm e = omega (arith, ap length e ∙ length-take n d)
