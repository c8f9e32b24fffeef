-- What is said of a signed fraction, crosswise, holds of every one that is the same number. Assumes nothing.
use mathlib.Core.Path.{◌≡◌, sym, ap, ap₂, ◌∙◌}
use Prim.Native.Nat.{ℕ, ◌+◌, ◌-◌, ◌*◌, ◌^◌, ◌≤◌, ◌<◌, max}
use native.Mathlib.Nat.{le_trans, le_of_eq, mul_comm, mul-add, mul-sub, mul-pos, mul-le-mul_right, le_of_mul-le-mul_right, le-max_left}
use native.Mathlib.Nat.{le-max_right, max-le, le-div_iff_mul-le}
use native.Mathlib.Omega.{arith}
use lib.Pow.{pow_pos}
use Rattle.series.specs.Series.{Signed, Same, lAt, lOf, rise, fall, magnitude}
use Rattle.series.proofs.Terms.{s_den-pos}

pub same_back : {x y : Signed} → Same x y → Same y x
same_back e = record { crosswise = sym e.crosswise }

pub over-pos : (u f c d : ℕ) → 0 < d → 0 < (lAt u f c d).over
unfolding lAt
over-pos u f c d h = mul-pos (s_den-pos 3 (omega arith)) (s_den-pos (c + d) (omega arith))

pub over_pos_of : (a b : ℕ) → 0 < b → 0 < (lOf a b).over
unfolding lOf
over_pos_of a b h = over-pos (rise a b) (fall a b) (a * 2 ^ fall a b) (b * 2 ^ rise a b) (mul-pos h (pow_pos (rise a b)))

at_most :
    (a b k p l o p' l' o' E E' : ℕ) → 0 < o → p * o' + l' * o ≡ p' * o + l * o' → E * o' ≤ E' * o → a * o + k * l ≤ b * o + k * p + E
    → a * o' + k * l' ≤ b * o' + k * p' + E'
at_most a b k p l o p' l' o' E E' po e m h =
    le_of_mul-le-mul_right {k = o} (omega (arith, mul-le-mul_right o' h, ap (λ (t : ℕ). k * t) e)) po

at_least :
    (a b k p l o p' l' o' E E' : ℕ) → 0 < o → p * o' + l' * o ≡ p' * o + l * o' → E * o' ≤ E' * o → b * o + k * p ≤ a * o + k * l + E
    → b * o' + k * p' ≤ a * o' + k * l' + E'
at_least a b k p l o p' l' o' E E' po e m h =
    le_of_mul-le-mul_right {k = o} (omega (arith, mul-le-mul_right o' h, ap (λ (t : ℕ). k * t) e)) po

apart_meets : (a b a' b' : ℕ) → a + b' ≡ a' + b → a - b + (b - a) ≡ a' - b' + (b' - a')
apart_meets a b a' b' e = omega arith

apart-times : (a b c : ℕ) → (a - b + (b - a)) * c ≡ a * c - b * c + (b * c - a * c)
apart-times a b c =
    mul_comm (a - b + (b - a)) c ∙ mul-add c (a - b) (b - a)
    ∙ ap₂ ◌+◌ (mul-sub c a b ∙ ap₂ ◌-◌ (mul_comm c a) (mul_comm c b)) (mul-sub c b a ∙ ap₂ ◌-◌ (mul_comm c b) (mul_comm c a))

max-times : (a o c d : ℕ) → 0 < d → a * d ≤ c → o * d ≤ c → max a o * d ≤ c
max-times a o c d pd h k = (le-div_iff_mul-le pd).0 (max-le ((le-div_iff_mul-le pd).1 h) ((le-div_iff_mul-le pd).1 k))

module _ {x y : Signed} (e : Same x y) where
  pub magnitude_moves : magnitude x * y.over ≡ magnitude y * x.over
  magnitude_moves =
      apart-times x.plus x.less y.over
      ∙ apart_meets (x.plus * y.over) (x.less * y.over) (y.plus * x.over) (y.less * x.over) e.crosswise
      ∙ sym (apart-times y.plus y.less x.over)

  -- max(1, |x|)
  pub most_moves : 0 < y.over → max x.over (magnitude x) * y.over ≤ max y.over (magnitude y) * x.over
  most_moves py =
      max-times x.over (magnitude x) (max y.over (magnitude y) * x.over) y.over py
      (le_trans (le_of_eq (mul_comm x.over y.over)) (mul-le-mul_right x.over (le-max_left y.over (magnitude y))))
      (le_trans (le_of_eq magnitude_moves) (mul-le-mul_right x.over (le-max_right y.over (magnitude y))))

  -- (a - b)/k is at most x + E/(k over), and at least x - E/(k over)
  module _ (px : 0 < x.over) (a b k E E' : ℕ) (m : E * y.over ≤ E' * x.over) where
    pub at_most_moves :
        a * x.over + k * x.less ≤ b * x.over + k * x.plus + E → a * y.over + k * y.less ≤ b * y.over + k * y.plus + E'
    at_most_moves h = at_most a b k _ _ _ _ _ _ E E' px e.crosswise m h

    pub at_least_moves :
        b * x.over + k * x.plus ≤ a * x.over + k * x.less + E → b * y.over + k * y.plus ≤ a * y.over + k * y.less + E'
    at_least_moves h = at_least a b k _ _ _ _ _ _ E E' px e.crosswise m h
