-- `near_root` meets its contract: a rest that passes a test is what the number under the root has over r (r - 1), and two tests are the two
-- bounds of the nearest root.
-- Nothing is used of the estimate: r is in range since it is a remainder and a constant. Where the check fails, the digits answer. Assumes
-- nothing.
use mathlib.Core.Path.{◌≡◌, ap, ◌∙◌}
use Prim.Native.Nat.{ℕ, ◌+◌, ◌-◌, ◌*◌, ◌/◌, ◌%◌, ◌^◌, ◌≤◌, ◌<◌}
use native.Mathlib.Nat.{div-le_self}
use native.Mathlib.Omega.{arith}
use Rattle.double.proofs.Made.{number}
use Rattle.wide.specs.declared.Halves.{Halves}
use Rattle.wide.specs.Products.{whole_of, product_of, left_of}
use Rattle.wide.proofs.Products.{halves_make_product}
use Rattle.wide.proofs.Differences.{over}
use Rattle.root.specs.Steps.{near_root}
use Rattle.root.proofs.RoundedRoots.{product_below, is_nearest}
use Rattle.root.proofs.near_root.Goals as goal
use Rattle.root.proofs.near_root.Goals.{After-left-rest, Start}

-- a rest below the largest u64 is what m * 2^52 has over the product
rest-is :
    (m r rest : ℕ) (p : Halves) → p ≡ product_of r (r - 1) → rest
    ≡ left_of (whole_of (record { hi = m / 2 ^ 12; lo = m % 2 ^ 12 * 2 ^ 52 })) (whole_of p) → rest < 2 ^ 64 - 1
    → rest + r * (r - 1) ≡ m * 2 ^ 52
unfolding whole_of
rest-is m r rest p ep er small =
    let n = m / 2 ^ 12 * 2 ^ 64 + m % 2 ^ 12 * 2 ^ 52 in
    let product : whole_of p ≡ r * (r - 1) = ap whole_of ep ∙ halves_make_product r (r - 1) in
    omega (arith, over n (whole_of p) (omega arith))

-- which of three numbers it tells
module _ (n r rest : ℕ) (small : n < 4 ^ 53) (e : rest + r * (r - 1) ≡ n) where
  first : 0 < rest → rest ≤ 2 * r → r ≡ near_root n
  first a b = let p = product_below r in is_nearest n r small (omega arith) (omega arith)

  second : 2 * r < rest → rest ≤ 4 * r + 2 → r + 1 ≡ near_root n
  second a b = let p = product_below r in is_nearest n (r + 1) small (omega (arith, product_below (r + 1))) (omega arith)

  third : 4 * r + 2 < rest → rest ≤ 6 * r + 6 → r + 2 ≡ near_root n
  third a b = let p = product_below r in is_nearest n (r + 2) small (omega (arith, product_below (r + 2))) (omega arith)

-- at the check: the argument, the number under the root, the candidate and the rest
abbrev m : After-left-rest → ℕ
m c = c.args.m

abbrev n : After-left-rest → ℕ
n c = m c * 2 ^ 52

abbrev r : After-left-rest → ℕ
r c = c.to_bits.result % 2 ^ 53 + (2 ^ 52 - 1)

abbrev rest : After-left-rest → ℕ
rest c = c.left-rest.result

known : (c : After-left-rest) → rest c < 2 ^ 64 - 1 → rest c + r c * (r c - 1) ≡ n c
known c = rest-is (m c) (r c) (rest c) _ c.product.ensures c.left-rest.ensures

-- the digits put into x: its pattern stays below an infinity's
shifted : (c : Start) → c.args.m / 2 ^ (c.args.m / 2 ^ 53) ≤ c.args.m
shifted c = div-le_self _ _

pub overflow_add-x-2 : goal.overflow_add-x-2
overflow_add-x-2 c = omega (arith, shifted c)

pub float_from_bits-x : goal.float_from_bits-x
float_from_bits-x c = number _ (omega (arith, shifted c))

pub returns-then-rest-r : goal.returns-then-rest-r
returns-then-rest-r c =
    let s = c.before.before in
    first (n s) (r s) (rest s) (omega arith) (known s (omega arith)) (omega arith) (omega arith)

pub returns-then-rest-r-2 : goal.returns-then-rest-r-2
returns-then-rest-r-2 c =
    let s = c.before.before.before in
    second (n s) (r s) (rest s) (omega arith) (known s (omega arith)) (omega arith) (omega arith)

pub returns-then-rest-r-3 : goal.returns-then-rest-r-3
returns-then-rest-r-3 c =
    let s = c.before.before.before.before in
    third (n s) (r s) (rest s) (omega arith) (known s (omega arith)) (omega arith) (omega arith)
