-- A double from -708 to 709 as a fraction: the range of its fields, that it is a whole number of 2^-53 from ½ on, and that the steps do not
-- depend on how the fraction is written. Assumes nothing.
use Rattle.std.proofs.Common.{◌≡◌, ℕ, zero, suc, ◌+◌, ◌-◌, ◌*◌, ◌/◌, ◌^◌, ◌<◌, ◌≤◌, Bool, true, false, cond, T, sym, ap, ◌∙◌, lt_trans, lt_of_lt_of_le, mul_comm, lt_of_mul-lt-mul_right, mul-lt-mul_of_pos_right, lt_of_not-le, arith, lit<, pow_pos, pow_mono, pow-add, shl_lt}
use native.Mathlib.Nat.{mul-div-mul_right, mul-lt-mul_of_pos_left}
use native.Mathlib.Nat.{eq_of_mul-eq-mul_right}
use native.Mathlib.Decide.{dec_le}
use lib.Pow.{pow-lt}
use lib.Ieee.{Float, nan, inf, fin, up, down, binary64, to_bits, of_bits, neg}
use lib.Ieee.Exact.{HasValue}
use lib.Ieee.Fits.{down_pos}
use lib.Ieee.Scale.{finite}
use Rattle.arith.proofs.Quotients.{up_of_factor}
use Rattle.double.specs.Numbers.{#708, #709}
use Rattle.double.specs.Fields.{sign_of, field_of, digits_of, mag, Sized}
use Rattle.double.proofs.Fields.{digits_lt, measured}
use Rattle.double.proofs.Finite.{finite_between}
use Rattle.exponential.specs.Steps.{home, raised, InRange, NormalFields}
use Rattle.exponential.specs.Bound.{Between}
use Rattle.exponential.proofs.Ends.{most_709, most_708}
use Rattle.exponential.proofs.Places.{Fine, low, whole, up_range, down_range}

-- ---- the fields

module _ (x : Float) (is : Between x) where
  abbrev b : ℕ
  b = to_bits binary64 x

  abbrev size : ℕ
  size = mag (field_of b) (digits_of b)

  x_finite : T (finite x)
  unfolding of_bits neg
  x_finite = finite_between x (neg #708) #709 tt tt is.number is.not-over is.not-under

  pub sized : Sized x (sign_of b) size
  sized = (measured x is.holds x_finite).is

  size-most : size ≤ cond (sign_of b) 708 709 * 2 ^ 1074
  size-most = go (sign_of b) sized
    where
      go : (s : Bool) → Sized x s size → size ≤ cond s 708 709 * 2 ^ 1074
      go true v = most_708 x size (2 ^ 1074) v is.not-under
      go false v = most_709 x size (2 ^ 1074) v is.not-over

  pub normal_of : 1 ≤ field_of b → NormalFields (sign_of b) (field_of b) (digits_of b)
  normal_of h = record { first = h; digits = digits_lt b; most = size-most }

pub range_of_normal : (s : Bool) (f t : ℕ) → NormalFields s f t → InRange (raised s (mag f t) (2 ^ 1074) / 2048)
range_of_normal true f t n = down_range (mag f t) (2 ^ 1074) (pow_pos 1074) n.most
range_of_normal false f t n = up_range (mag f t) (2 ^ 1074) (pow_pos 1074) n.most

-- ---- below ½, or a whole number of 2^-53

fine_fields : (f t : ℕ) → t < 2 ^ 52 → Fine (mag f t) (2 ^ 1074)
unfolding mag
fine_fields zero t h = low (lt_trans (mul-lt-mul_of_pos_left {k = 2} h (lit< tt)) (pow-lt {i = 53} {j = 1074} (lit< tt)))
fine_fields (suc j) t h = go (dec_le (suc j) 1021)
  where
    digits : (t : ℕ) → t < 2 ^ 52 → 2 ^ 52 + t < 2 ^ 53
    digits t h = omega arith

    small : {j : ℕ} → suc j ≤ 1021 → 53 + j ≤ 1073
    small e = omega arith

    back : {j : ℕ} → 1021 < suc j → j ≡ j - 1021 + 1021
    back e = omega arith

    regroup : (m x y : ℕ) → m * (x * y) * 2 ^ 53 ≡ m * x * (y * 2 ^ 53)
    regroup m x y = omega arith

    go : Dec (suc j ≤ 1021) → Fine ((2 ^ 52 + t) * 2 ^ j) (2 ^ 1074)
    go (yes e) = low (mul-lt-mul_of_pos_left {k = 2} (lt_of_lt_of_le (shl_lt 53 j (digits t h)) (pow_mono {j = 1073} (small e))) (lit< tt))
    go (no e) =
        whole ((2 ^ 52 + t) * 2 ^ (j - 1021))
        (ap (λ (x : ℕ). (2 ^ 52 + t) * x * 2 ^ 53) (ap (λ (x : ℕ). 2 ^ x) (back (lt_of_not-le e)) ∙ pow-add 2 (j - 1021) 1021)
        ∙ regroup (2 ^ 52 + t) (2 ^ (j - 1021)) (2 ^ 1021))

-- ---- the same fraction, written twice

-- a·B = A·b
module _ (a b A B : ℕ) (bp : 0 < b) (Bp : 0 < B) (same : a * B ≡ A * b) where
  fine_move : Fine A B → Fine a b
  fine_move (low l) =
      low (lt_of_mul-lt-mul_right B (omega (arith, same, mul-lt-mul_of_pos_right l bp)))
  fine_move (whole n e) =
      whole n (eq_of_mul-eq-mul_right B Bp (a * 2 ^ 53) (n * b) (omega (arith, ap (λ (x : ℕ). x * 2 ^ 53) same, ap (λ (x : ℕ). x * b) e)))

  units_same : a * 2 ^ 64 * B ≡ A * 2 ^ 64 * b
  units_same = omega (arith, ap (λ (x : ℕ). x * 2 ^ 64) same)

  pub raised_same : (s : Bool) → raised s a b ≡ raised s A B
  unfolding raised
  raised_same false =
      ap (λ (x : ℕ). home * 2048 + x)
      (sym (mul-div-mul_right (a * 2 ^ 64) b Bp) ∙ ap (λ (x : ℕ). x / (b * B)) units_same
      ∙ ap (λ (x : ℕ). A * 2 ^ 64 * b / x) (mul_comm b B)
      ∙ mul-div-mul_right (A * 2 ^ 64) B bp)
  raised_same true =
      ap (λ (x : ℕ). home * 2048 - x)
      (sym (up_of_factor (a * 2 ^ 64) b B bp Bp) ∙ ap (λ (x : ℕ). (x + (b * B - 1)) / (b * B)) units_same
      ∙ ap (λ (x : ℕ). (A * 2 ^ 64 * b + (x - 1)) / x) (mul_comm b B) ∙ up_of_factor (A * 2 ^ 64) B b Bp bp)

same_value : (x : Float) (s r : Bool) (a b A B : ℕ) → HasValue x s a b → HasValue x r A B → (s ≡ r) × (a * B ≡ A * b)
same_value nan s r a b A B h k = absurd h
same_value (inf i) s r a b A B h k = absurd h
same_value (fin i m e) s r a b A B h k =
    (sym h.0 ∙ k.0, eq_of_mul-eq-mul_right (down e) (down_pos e) (a * B) (A * b) (cross (m * up e) (down e) h.1 k.1))
  where
    cross : (v d : ℕ) → v * b ≡ a * d → v * B ≡ A * d → a * B * d ≡ A * b * d
    cross v d p q = omega (arith, ap (λ (x : ℕ). x * B) p, ap (λ (x : ℕ). x * b) q)

-- what the theorem needs of a fraction that x is
pub record FractionOf (x : Float) (s : Bool) (a b : ℕ) : Type 0 where
  pub fine : Fine a b
  pub same :
      raised s a b ≡ raised (sign_of (to_bits binary64 x)) (mag (field_of (to_bits binary64 x)) (digits_of (to_bits binary64 x))) (2 ^ 1074)

pub written : (x : Float) → Between x → (s : Bool) (a b : ℕ) → 0 < b → HasValue x s a b → FractionOf x s a b
written x is s a b bp v =
    let bits = to_bits binary64 x in
    let A = mag (field_of bits) (digits_of bits) in
    let e = same_value x s (sign_of bits) a b A (2 ^ 1074) v (sized x is) in
    record {
      fine = fine_move a b A (2 ^ 1074) bp (pow_pos 1074) e.1 (fine_fields (field_of bits) (digits_of bits) (digits_lt bits));
      same = raised_same a b A (2 ^ 1074) bp (pow_pos 1074) e.1 s ∙ ap (λ (r : Bool). raised r A (2 ^ 1074)) e.0;
    }
