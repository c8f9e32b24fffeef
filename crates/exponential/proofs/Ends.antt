-- Comparisons of a double with 709 and with -708, as comparisons of whole numbers. Assumes nothing.
use Rattle.std.proofs.Common.{◌≡◌, ℕ, ◌*◌, ◌<◌, ◌≤◌, Bool, true, false, not, T, ltb, sym, refl, subst, le_trans, le_of_eq, mul-le-mul_right, mul-one, mul_right_comm, le_of_mul-le-mul_right, nltb→le, le-ltb}
use lib.Ieee.{Float, nan, inf, fin, up, down, of_bits, neg, lt}
use lib.Ieee.Exact.{HasValue}
use lib.Ieee.Fits.{down_pos}
use Rattle.arith.proofs.Branches.{false_not_true}
use Rattle.double.specs.Operators.{◌≺◌}
use Rattle.double.specs.Numbers.{#708, #709}

-- a / c is the number m·u / d
scaled_at_most : (m u d a c n : ℕ) → 0 < d → m * u * c ≡ a * d → m * u ≤ n * d → a ≤ n * c
scaled_at_most m u d a c n p e l =
    le_of_mul-le-mul_right (le_trans (le_of_eq (sym e)) (le_trans (mul-le-mul_right c l) (le_of_eq (mul_right_comm n d c)))) p

number_at_most : (m u d a c n : ℕ) → 0 < c → m * u * c ≡ a * d → a ≤ n * c → m * u ≤ n * d
number_at_most m u d a c n p e l =
    le_of_mul-le-mul_right (le_trans (le_of_eq e) (le_trans (mul-le-mul_right d l) (le_of_eq (mul_right_comm n c d)))) p

le_of_test : {m n : ℕ} → ltb m n ≡ false → n ≤ m
le_of_test {m} {n} e = nltb→le m n (subst (λ (b : Bool). T (not b)) (sym e) tt)

-- ---- 709

pub most_709 : (x : Float) (a c : ℕ) → HasValue x false a c → (#709 ≺ x) ≡ false → a ≤ 709 * c
unfolding lt of_bits
most_709 nan a c v h = absurd v
most_709 (inf s) a c v h = absurd v
most_709 (fin true m e) a c v h = absurd (false_not_true (sym v.0))
most_709 (fin false m e) a c v h =
    scaled_at_most m (up e) (down e) a c 709 (down_pos e) v.1 (le_trans (le_of_eq (sym (mul-one (m * up e)))) (le_of_test h))

pub not-over : (x : Float) (s : Bool) (a c : ℕ) → 0 < c → HasValue x s a c → a ≤ 709 * c → (#709 ≺ x) ≡ false
unfolding lt of_bits
not-over nan s a c p v h = refl
not-over (inf r) s a c p v h = absurd v
not-over (fin true m e) s a c p v h = refl
not-over (fin false m e) s a c p v h =
    le-ltb _ _ (le_trans (le_of_eq (mul-one (m * up e))) (number_at_most m (up e) (down e) a c 709 p v.1 h))

-- ---- -708

pub most_708 : (x : Float) (a c : ℕ) → HasValue x true a c → (x ≺ neg #708) ≡ false → a ≤ 708 * c
unfolding lt of_bits neg
most_708 nan a c v h = absurd v
most_708 (inf s) a c v h = absurd v
most_708 (fin false m e) a c v h = absurd (false_not_true v.0)
most_708 (fin true m e) a c v h =
    scaled_at_most m (up e) (down e) a c 708 (down_pos e) v.1 (le_trans (le_of_eq (sym (mul-one (m * up e)))) (le_of_test h))

pub not-under : (x : Float) (s : Bool) (a c : ℕ) → 0 < c → HasValue x s a c → a ≤ 708 * c → (x ≺ neg #708) ≡ false
unfolding lt of_bits neg
not-under nan s a c p v h = refl
not-under (inf r) s a c p v h = absurd v
not-under (fin false m e) s a c p v h = refl
not-under (fin true m e) s a c p v h =
    le-ltb _ _ (le_trans (le_of_eq (mul-one (m * up e))) (number_at_most m (up e) (down e) a c 708 p v.1 h))

-- ---- both

-- what is below -708 is not above 709
pub under_not_over : (x : Float) → (x ≺ neg #708) ≡ true → (#709 ≺ x) ≡ false
unfolding lt of_bits neg
under_not_over nan h = refl
under_not_over (inf true) h = refl
under_not_over (inf false) h = absurd (false_not_true h)
under_not_over (fin true m e) h = refl
under_not_over (fin false m e) h = absurd (false_not_true h)
