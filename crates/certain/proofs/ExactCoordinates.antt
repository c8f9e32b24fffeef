-- A finite double is the fraction that its units say, and L of a quotient is L of the units. Assumes nothing.
use mathlib.Core.Path.{◌≡◌, sym, ap₂, ◌∙◌, subst}
use mathlib.Core.Bool.{Bool, true, false}
use Prim.Native.Nat.{ℕ, ◌+◌, ◌*◌, ◌^◌, ◌<◌}
use native.Mathlib.Nat.{mul-pos, eq_of_mul-eq-mul_right, lt_of_mul-lt-mul_right}
use native.Mathlib.Omega.{arith}
use lib.Pow.{pow_pos}
use lib.Ieee.{Float, nan, inf, fin, up, down}
use lib.Ieee.Positive.{num, den, den_pos}
use Rattle.double.specs.Fields.{Sized}
use Rattle.rounding.specs.errors.Errors.{above, below}
use Rattle.series.specs.Series.{Signed, Same, lOf}
use Rattle.series.proofs.SameFraction.{L-of_equal}
use Rattle.series.proofs.SignedFractions.{over_pos_of}
use Rattle.certain.specs.Coordinates.{exact_of, l_of_quotient}

abbrev pub in_units : Bool → ℕ → Signed
in_units s n = record { plus = above s n; less = below s n; over = 2 ^ 1074 }

pub units_exact : (x : Float) (s : Bool) (n : ℕ) → Sized x s n → Same (in_units s n) (exact_of x)
units_exact nan s n h = absurd h
units_exact (inf i) s n h = absurd h
units_exact (fin i m e) s n h = subst (λ (z : Bool). Same (in_units s n) (exact_of (fin z m e))) (sym h.0) (go s)
  where
    shape : (N U n d : ℕ) → N * U ≡ n * d → n * d + 0 * U ≡ N * U + 0 * d
    shape N U n d e = omega arith

    shape' : (N U n d : ℕ) → N * U ≡ n * d → 0 * d + N * U ≡ 0 * U + n * d
    shape' N U n d e = omega arith

    go : (z : Bool) → Same (in_units z n) (exact_of (fin z m e))
    go false = record { crosswise = shape (m * up e) (2 ^ 1074) n (down e) h.1 }
    go true = record { crosswise = shape' (m * up e) (2 ^ 1074) n (down e) h.1 }

pub exact_over : (x : Float) → 0 < (exact_of x).over
exact_over nan = pow_pos 0
exact_over (inf s) = pow_pos 0
exact_over (fin s m e) = den_pos (fin s m e)

pub cross_of_lem : (x : Float) (s : Bool) (n : ℕ) → Sized x s n → num x * 2 ^ 1074 ≡ n * den x
cross_of_lem nan s n h = absurd h
cross_of_lem (inf i) s n h = absurd h
cross_of_lem (fin i m e) s n h = h.1

-- a product above zero has its first factor above zero
first_pos : (n U x : ℕ) → 0 < x → n * U ≡ x → 0 < n
first_pos n U x p e = lt_of_mul-lt-mul_right U (go (n * U) x p e)
  where
    go : (y x : ℕ) → 0 < x → y ≡ x → 0 * U < y
    go y x p e = omega arith

pub num_pos_of : (x : Float) (s : Bool) (n : ℕ) → 0 < n → Sized x s n → 0 < num x
num_pos_of x s n pn h = first_pos (num x) (2 ^ 1074) (n * den x) (mul-pos pn (den_pos x)) (cross_of_lem x s n h)

pub quotient-over : (x y : Float) (t : Bool) (b : ℕ) → 0 < b → Sized y t b → 0 < (l_of_quotient x y).over
quotient-over x y t b pb k = over_pos_of (num x * den y) (den x * num y) (mul-pos (den_pos x) (num_pos_of y t b pb k))

-- L of the quotient, by units
pub quotient_exact : (x y : Float) (s t : Bool) (a b : ℕ) → 0 < a → 0 < b → Sized x s a → Sized y t b → Same (lOf a b) (l_of_quotient x y)
quotient_exact x y s t a b pa pb h k =
    L-of_equal a b (num x * den y) (den x * num y) pa pb (mul-pos (num_pos_of x s a pa h) (den_pos y))
    (mul-pos (den_pos x) (num_pos_of y t b pb k))
    (crossed (num x) (den x) (num y) (den y) (2 ^ 1074) a b (pow_pos 1074) (cross_of_lem x s a h) (cross_of_lem y t b k))
  where
    crossed : (N D M E U a b : ℕ) → 0 < U → N * U ≡ a * D → M * U ≡ b * E → a * (D * M) ≡ N * E * b
    crossed N D M E U a b pU e f =
        eq_of_mul-eq-mul_right U pU (a * (D * M)) (N * E * b) (one a D M U ∙ ap₂ ◌*◌ (sym e) f ∙ two N U b E)
      where
        one : (a D M U : ℕ) → a * (D * M) * U ≡ a * D * (M * U)
        one a D M U = omega arith

        two : (N U b E : ℕ) → N * U * (b * E) ≡ N * E * b * U
        two N U b E = omega arith
