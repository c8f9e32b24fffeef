-- The square root of a double by a table estimate and correction steps. Definitions only. That it is the plain root, and the most steps
-- that it takes, is stated in specs/table_root/SameRoot.
use Rattle.std.specs.Prelude.{cond, ℕ, zero, suc, ◌+◌, ◌-◌, ◌*◌, ◌/◌, ◌%◌, ◌^◌, leb, eqb, Float}
use Rattle.std.specs.Float.{nan, binary64}
use Rattle.std.specs.Float.Ieee.{is_nan, to_bits, of_bits}
use Rattle.double.specs.Fields.{sign_of, field_of, digits_of, normal_of}
use Rattle.double.specs.declared.Normal.{Normal}
use Rattle.root.specs.reciprocal_table.Estimates.{estimate_of, units}
use Rattle.root.specs.declared.table_root.Guess.{Guess}
use Rattle.root.specs.declared.table_root.WholeRoot.{WholeRoot}
use Rattle.root.specs.declared.table_root.Root.{Root}

-- ---- the estimate, and the step that corrects it

-- The first correction step: 1 over the root of x, in units of 2^-31 and not above it, from an estimate e: e (3 - x e²) / 2, Newton's step
-- for 1 over the root
unfoldable pub refined : ℕ → ℕ → ℕ
refined x e = (3 * 2 ^ 48 * e - x * (e * e * e)) / 2 ^ 30

-- 02, Order 11: "starts from a table estimate": 1 over the root of m / 2^52, in units of 2^-31, as the table has it
unfoldable pub tabled_of : ℕ → ℕ
unfolding estimate_of
tabled_of m = estimate_of m * 2 ^ 19

-- and after the first step
unfoldable pub reciprocal_of : ℕ → ℕ
unfolding refined estimate_of
reciprocal_of m = refined (units m) (estimate_of m)

-- the root of m / 2^52 in units of 2^-30, from v, which is 1 over it: m times v. The rest is what m has over its square.
unfoldable pub first_of : ℕ → ℕ → Guess
first_of m v = let r = m / 2 ^ 28 * v / 2 ^ 25 in record { root = r; rest = m * 2 ^ 8 - r * r }

-- ---- the steps that correct the root

-- What a step adds to the root, in units of which `scale` make one of the guess: half the rest times v. 2^18 keeps the product in 64 bits,
-- and `unit` is what is left of the units.
unfoldable pub addition : ℕ → ℕ → Guess → ℕ
addition v unit g = g.rest / 2 ^ 18 * v / unit

-- 02, Order 11: "corrects it with whole-number steps". A step of the root: the root in units that are finer by `scale`, with the addition, and the rest
-- that this leaves.
unfoldable pub step_of : ℕ → ℕ → ℕ → Guess → Guess
unfolding addition
step_of v scale unit g =
    let q = addition v unit g in
    record { root = g.root * scale + q; rest = g.rest * (scale * scale) - q * (2 * (g.root * scale) + q) }

-- The last step, where it is taken, is the next number up. No step comes after it, so that its rest is not looked at.
unfoldable pub next_of : Guess → Guess
next_of g = record { root = g.root + 1; rest = g.rest - (2 * g.root + 1) }

-- the steps of the root in their order, counting from 0. Three lead to units of 2^-38, 2^-45 and 2^-52.
unfoldable pub correction_of : ℕ → ℕ → Guess → Guess
unfolding step_of next_of
correction_of v zero g = step_of v 256 (2 ^ 36) g
correction_of v (suc zero) g = step_of v 128 (2 ^ 45) g
correction_of v (suc (suc zero)) g = step_of v 128 (2 ^ 52) g
correction_of v (suc (suc (suc n))) g = next_of g

-- The root after n correction steps: after none it is the table's, the first corrects the estimate that it is taken from, and the others
-- the root itself.
unfoldable pub corrected_of : ℕ → ℕ → Guess
unfolding first_of tabled_of reciprocal_of correction_of
corrected_of m zero = first_of m (tabled_of m)
corrected_of m (suc zero) = first_of m (reciprocal_of m)
corrected_of m (suc (suc n)) = correction_of (reciprocal_of m) n (corrected_of m (suc n))

-- How many it takes: four, and a fifth where the rest after four is above the root. The middle to the next number has the square r² + r
-- + 1/4.
unfoldable pub steps_of : ℕ → ℕ
unfolding corrected_of
steps_of m = cond (leb (corrected_of m 4).rest (corrected_of m 4).root) 4 5

-- 02, Order 11: "the count handed back equals the steps of its definition". The root after that many steps, and that many.
unfoldable pub whole_root_of : ℕ → WholeRoot
unfolding corrected_of steps_of
whole_root_of m = record { root = (corrected_of m (steps_of m)).root; steps = steps_of m }

-- ---- doubles, in the cases of the plain root

-- an answer that takes no step
abbrev pub unstepped : Float → Root
unstepped x = record { root = x; steps = 0 }

-- the root of the positive number m * 2^(k - 1126), put together as in the plain root
unfoldable pub table_root_of : Normal → Root
unfolding whole_root_of of_bits
table_root_of n =
    let f = whole_root_of (n.m * 2 ^ (n.k % 2)) in
    record { root = of_bits binary64 ((n.k / 2 + 485) * 2 ^ 52 + f.root); steps = f.steps }

unfoldable pub table_sqrt_fields : Float → ℕ → ℕ → Root
unfolding table_root_of normal_of
table_sqrt_fields x f t =
    cond (eqb f 0)
    (cond (eqb t 0) (unstepped x) (table_root_of (normal_of 0 t)))
    (cond (leb f 2046) (table_root_of (normal_of f t)) (unstepped x))

unfoldable pub table_sqrt_bits : Float → ℕ → Root
unfolding table_sqrt_fields
table_sqrt_bits x b = cond (sign_of b) (cond (eqb b (2 ^ 63)) (unstepped x) (unstepped nan)) (table_sqrt_fields x (field_of b) (digits_of b))

-- 02, Order 11: "add another that starts from a table estimate and corrects it with whole-number steps"
unfoldable pub table_sqrt_of : Float → Root
unfolding table_sqrt_bits to_bits is_nan
table_sqrt_of x = cond (is_nan x) (unstepped nan) (table_sqrt_bits x (to_bits binary64 x))
