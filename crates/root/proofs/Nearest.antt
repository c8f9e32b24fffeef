-- `sqrt_of` is IEEE 754's square root: at a positive finite double the nearest double, and no other is as near. Assumes nothing.
-- Below the root's binade the doubles lie closer together; there either q is the least of its binade and not above the root, or they are
-- more than a last place away.
use mathlib.Core.Path.{◌≡◌, sym, ap, subst, ◌∙◌}
use mathlib.Core.Logic.{◌⊎◌, inl, inr}
use mathlib.Core.Bool.{false}
use Prim.Native.Nat.{ℕ, ◌+◌, ◌*◌, ◌/◌, ◌%◌, ◌^◌, ◌≤◌, ◌<◌}
use native.Mathlib.Nat.{mul-le-mul_right, mul_assoc, le_of_lt, le_trans, lt_trans, lt_irrefl, lt_of_not-le, le_antisymm, eq-or-lt_of_le}
use native.Mathlib.Decide.{dec_le}
use native.Mathlib.Omega.{arith}
use lib.Dec.{T}
use lib.Pow.{pow-add, pow_pos}
use borrow.Author.Tests.{leb-false}
use lib.Ieee.{Float, binary64, fits, to_bits}
use lib.Ieee.Bits.{of_bits-fits}
use Rattle.double.specs.Fields.{field_of, digits_of, Units, normal_of}
use Rattle.double.specs.declared.Normal.{Normal}
use Rattle.double.proofs.Fields.{read, same_units}
use Rattle.double.proofs.NotNan.{no_nan_of_value}
use Rattle.double.proofs.Normalised.{Normalised, of_double}
use Rattle.double.proofs.Made.{made}
use Rattle.double.proofs.RoundTrips.{same_size}
use Rattle.root.specs.Steps.{near_root, root_of, sqrt_of}
use Rattle.root.specs.Nearest.{IsSqrt}
use Rattle.root.proofs.AnyWidth.{Rounds}
use Rattle.root.proofs.Radicands.{evened, radicand, root_of-radicand}
use Rattle.root.proofs.Grid.{places, on_grid, next}
use Rattle.root.proofs.Midpoints.{middle_below, middle_above, middle_under_root}
use Rattle.root.proofs.Cases.{by_bits, by_fields, of_positive}

-- the root of the n units that are m * 2^(k - 1126): q of c units, with N the number under the root
module _ (n m k : ℕ) (i : Normalised n m k) where
  abbrev h : ℕ
  h = k / 2

  abbrev N : ℕ
  N = radicand m k

  abbrev c : ℕ
  c = 2 ^ (h + 485)

  abbrev q : ℕ
  q = near_root N

  rounds : Rounds (2 ^ 52) N q
  rounds = root_of-radicand m k i.from i.to

  q-pos : 0 < q
  q-pos = omega (arith, rounds.from)

  least_square : 2 ^ 52 * 2 ^ 52 ≤ N
  least_square = mul-le-mul_right (2 ^ 52) (le_trans i.from (evened m k).least)

  -- x in square units: n * 2^1074 is N * c²
  scaled : n * 2 ^ 1074 ≡ N * (c * c)
  scaled =
      let halves : k % 2 + (h + h) ≡ k = omega arith in
      let units : n * 2 ^ 1074 ≡ n * 2 ^ 52 * 2 ^ 1022 = ap (λ (a : ℕ). n * a) (pow-add 2 52 1022)
      ∙ sym (mul_assoc n (2 ^ 52) (2 ^ 1022)) in
      let evens : m * 2 ^ k ≡ M * 2 ^ (h + h) = ap (λ (a : ℕ). m * 2 ^ a) (sym halves) ∙ ap (λ (a : ℕ). m * a) (pow-add 2 (k % 2) (h + h))
      ∙ sym (mul_assoc m (2 ^ (k % 2)) (2 ^ (h + h))) in
      let square : c * c ≡ 2 ^ (h + h) * 2 ^ 970 = sym (pow-add 2 (h + 485) (h + 485)) ∙ ap (λ (a : ℕ). 2 ^ a) (sum h)
      ∙ pow-add 2 (h + h) 970 in
      units
      ∙ ap (λ (a : ℕ). a * 2 ^ 1022) (i.is ∙ evens)
      ∙ ap (λ (a : ℕ). M * 2 ^ (h + h) * a) (pow-add 2 52 970)
      ∙ shape M (2 ^ (h + h)) (2 ^ 52) (2 ^ 970)
      ∙ ap (λ (a : ℕ). N * a) (sym square)
    where
      M : ℕ
      M = m * 2 ^ (k % 2)

      sum : (h : ℕ) → h + 485 + (h + 485) ≡ h + h + 970
      sum h = omega arith

      shape : (a p b d : ℕ) → a * p * (b * d) ≡ a * b * (p * d)
      shape a p b d = omega arith

  root_units : Units (root_of (record { m = m; k = k })) (q * c)
  unfolding root_of
  root_units = made (h + 485) q rounds.from (omega (arith, rounds.to)) (omega (arith, rounds.to, i.most))

  binade : 2 ^ (52 + (h + 485)) ≡ 2 ^ 52 * c
  binade = pow-add 2 52 (h + 485)

  over : (y : Float) (w : ℕ) → T (fits binary64 y) → Units y w → w < q * c → (w + q * c) * (w + q * c) < 4 * (n * 2 ^ 1074)
  over y w F u l = subst (λ (a : ℕ). (w + q * c) * (w + q * c) < 4 * a) (sym scaled) (go (dec_le (2 ^ (52 + (h + 485))) w))
    where
      C : 0 < c
      C = pow_pos (h + 485)

      at_place : (z : ℕ) × (w ≡ z * c) → (w + q * c) * (w + q * c) < 4 * (N * (c * c))
      at_place p =
          middle_below q N c w C rounds.nearest q-pos
          (subst (λ (a : ℕ). a + c ≤ q * c) (sym p.1) (next p.0 q c (subst (λ (a : ℕ). a < q * c) p.1 l)))

      one_more : (a b c w : ℕ) → a < b → (a + 1) * c ≤ b * c → w < a * c → w + c ≤ b * c
      one_more a b c w e g k = omega arith

      up : (a b : ℕ) → a < b → a + 1 ≤ b
      up a b e = omega arith

      under_binade : w < 2 ^ 52 * c → (2 ^ 52 ≡ q) ⊎ (2 ^ 52 < q) → (w + q * c) * (w + q * c) < 4 * (N * (c * c))
      under_binade g (inl e) = middle_under_root q N c w C rounds.nearest q-pos (subst (λ (a : ℕ). a * a ≤ N) e least_square) l
      under_binade g (inr e) =
          middle_below q N c w C rounds.nearest q-pos (one_more (2 ^ 52) q c w e (mul-le-mul_right c (up (2 ^ 52) q e)) g)

      go : Dec (2 ^ (52 + (h + 485)) ≤ w) → (w + q * c) * (w + q * c) < 4 * (N * (c * c))
      go (yes g) = at_place (on_grid w (h + 485) (places y w F u) g)
      go (no g) = under_binade (subst (λ (a : ℕ). w < a) binade (lt_of_not-le g)) (eq-or-lt_of_le rounds.from)

  under : (y : Float) (w : ℕ) → T (fits binary64 y) → Units y w → q * c < w → 4 * (n * 2 ^ 1074) < (q * c + w) * (q * c + w)
  under y w F u l =
      let reaches : 2 ^ (52 + (h + 485)) ≤ w = subst (λ (a : ℕ). a ≤ w) (sym binade)
      (le_trans (mul-le-mul_right c rounds.from) (le_of_lt l)) in
      let p = on_grid w (h + 485) (places y w F u) reaches in
      subst (λ (a : ℕ). 4 * a < (q * c + w) * (q * c + w)) (sym scaled)
      (middle_above q N c w (pow_pos (h + 485)) rounds.nearest q-pos
      (subst (λ (a : ℕ). q * c + c ≤ a) (sym p.1) (next q p.0 c (subst (λ (a : ℕ). q * c < a) p.1 l))))

-- at a positive finite double the steps lead to `root_of`
sqrt_of_positive :
    (x : Float) (n : ℕ) → T (fits binary64 x) → Units x n → 0 < n
    → sqrt_of x ≡ root_of (normal_of (field_of (to_bits binary64 x)) (digits_of (to_bits binary64 x)))
sqrt_of_positive x n F u p =
    let b = to_bits binary64 x in
    let r = read x false n F u in
    by_bits x (no_nan_of_value x false n (2 ^ 1074) u)
    ∙ by_fields x b (leb-false (2 ^ 63) b r.sign)
    ∙ of_positive x (field_of b) (digits_of b) r.field (subst (λ (a : ℕ). 0 < a) r.size p)

pub sqrt_is_nearest : (x : Float) (n : ℕ) → T (fits binary64 x) → Units x n → 0 < n → IsSqrt x (sqrt_of x)
sqrt_is_nearest x n F u p =
    let d = normal_of (field_of (to_bits binary64 x)) (digits_of (to_bits binary64 x)) in
    let i = of_double x n F u p in
    subst (λ (y : Float). IsSqrt x y) (sym (sqrt_of_positive x n F u p))
    (record {
      n = n;
      v = near_root (radicand d.m d.k) * 2 ^ (d.k / 2 + 485);
      x-is = u;
      r-is = root_units n d.m d.k i;
      over = over n d.m d.k i;
      under = under n d.m d.k i;
    })

-- ---- only one double is nearest

-- of two, neither is above the other: their middle would lie on both sides of the root
not-above : (x r s : Float) → T (fits binary64 r) → T (fits binary64 s) → (i : IsSqrt x r) → (j : IsSqrt x s) → i.n ≡ j.n → i.v ≤ j.v
not-above x r s F G i j e = le_of_not_lt (λ (g : j.v < i.v). lt_irrefl ((j.v + i.v) * (j.v + i.v))
    (lt_trans (i.over s j.v G j.r-is g) (subst (λ (a : ℕ). 4 * (a * 2 ^ 1074) < (j.v + i.v) * (j.v + i.v)) (sym e)
    (j.under r i.v F i.r-is g))))
  where
    le_of_not_lt : {a b : ℕ} → (b < a → ⊥) → a ≤ b
    le_of_not_lt h = omega arith

one_nearest : (x r s : Float) → T (fits binary64 r) → T (fits binary64 s) → IsSqrt x r → IsSqrt x s → r ≡ s
one_nearest x r s F G i j =
    let e = same_units x false i.n j.n i.x-is j.x-is in
    same_size r s false j.v F G (subst (λ (a : ℕ). Units r a) (le_antisymm (not-above x r s F G i j e) (not-above x s r G F j i (sym e)))
    i.r-is) j.r-is

root_of_fits : (d : Normal) → T (fits binary64 (root_of d))
unfolding root_of
root_of_fits d = of_bits-fits binary64 ((d.k / 2 + 485) * 2 ^ 52 + near_root (radicand d.m d.k))

pub only_nearest : (x r : Float) (n : ℕ) → T (fits binary64 x) → T (fits binary64 r) → Units x n → 0 < n → IsSqrt x r → r ≡ sqrt_of x
only_nearest x r n F G u p i =
    one_nearest x r (sqrt_of x) G (subst (λ (y : Float). T (fits binary64 y)) (sym (sqrt_of_positive x n F u p)) (root_of_fits _)) i
    (sqrt_is_nearest x n F u p)
