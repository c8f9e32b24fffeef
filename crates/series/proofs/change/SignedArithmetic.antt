-- Products and differences of signed fractions depend on the numbers alone, and so does the sign. Assumes nothing.
use mathlib.Core.Path.{◌≡◌, sym, ap, ap₂, ◌∙◌}
use Prim.Native.Nat.{ℕ, ◌+◌, ◌*◌, ◌<◌}
use native.Mathlib.Nat.{mul-pos, eq_of_mul-eq-mul_right, lt_of_mul-lt-mul_right, mul-lt-mul_of_pos_right}
use native.Mathlib.Omega.{arith}
use Rattle.series.specs.Series.{Signed, Same}
use Rattle.series.specs.change.SignedArithmetic.{times, minus, AboveZero, BelowZero}

pub same_through : {x y z : Signed} → 0 < y.over → Same x y → Same y z → Same x z
same_through {x} {y} {z} py e f =
    record {
      crosswise = shape x.plus x.less x.over y.plus y.less y.over z.plus z.less z.over py e.crosswise
          f.crosswise;
    }
  where
    shape :
        (p l o q m w r n u : ℕ) → 0 < w → p * w + m * o ≡ q * o + l * w → q * u + n * w ≡ r * w + m * u → p * u + n * o ≡ r * o + l * u
    shape p l o q m w r n u pw e f =
        eq_of_mul-eq-mul_right w pw (p * u + n * o) (r * o + l * u)
        (add_back (p * u * w) (l * u * w) (n * o * w) (r * o * w) _ _ (q * o * u) (m * o * u)
        (first p l o q m w u (ap (λ (t : ℕ). u * t) e)) (second q m w r n u o (ap (λ (t : ℕ). o * t) f)) (left p u n o w) (right r o l u w))
      where
        first : (p l o q m w u : ℕ) → u * (p * w + m * o) ≡ u * (q * o + l * w) → p * u * w + m * o * u ≡ q * o * u + l * u * w
        first p l o q m w u e = omega arith

        second : (q m w r n u o : ℕ) → o * (q * u + n * w) ≡ o * (r * w + m * u) → q * o * u + n * o * w ≡ r * o * w + m * o * u
        second q m w r n u o e = omega arith

        left : (p u n o w : ℕ) → (p * u + n * o) * w ≡ p * u * w + n * o * w
        left p u n o w = omega arith

        right : (r o l u w : ℕ) → (r * o + l * u) * w ≡ r * o * w + l * u * w
        right r o l u w = omega arith

        add_back : (a b c d X Y s t : ℕ) → a + t ≡ s + b → s + c ≡ d + t → X ≡ a + c → Y ≡ d + b → X ≡ Y
        add_back a b c d X Y s t e f g h = omega arith

-- ---- one side of a product, and of a difference

module _ {x x' : Signed} (e : Same x x') (y : Signed) where
  times-left : Same (times x y) (times x' y)
  times-left =
      record {
        crosswise = shape x.plus x.less x.over x'.plus x'.less x'.over y.plus y.less y.over e.crosswise;
      }
    where
      shape :
          (p l o p' l' o' q m w : ℕ) → p * o' + l' * o ≡ p' * o + l * o'
          → (p * q + l * m) * (o' * w) + (p' * m + l' * q) * (o * w) ≡ (p' * q + l' * m) * (o * w) + (p * m + l * q) * (o' * w)
      shape p l o p' l' o' q m w e =
          before p l o p' l' o' q m w ∙ ap₂ (λ (s t : ℕ). q * w * s + m * w * t) e (sym e) ∙ after p l o p' l' o' q m w
        where
          before :
              (p l o p' l' o' q m w : ℕ)
              → (p * q + l * m) * (o' * w) + (p' * m + l' * q) * (o * w) ≡ q * w * (p * o' + l' * o) + m * w * (p' * o + l * o')
          before p l o p' l' o' q m w = omega arith

          after :
              (p l o p' l' o' q m w : ℕ)
              → q * w * (p' * o + l * o') + m * w * (p * o' + l' * o) ≡ (p' * q + l' * m) * (o * w) + (p * m + l * q) * (o' * w)
          after p l o p' l' o' q m w = omega arith

  times_right : Same (times y x) (times y x')
  times_right =
      record {
        crosswise = shape x.plus x.less x.over x'.plus x'.less x'.over y.plus y.less y.over e.crosswise;
      }
    where
      shape :
          (p l o p' l' o' q m w : ℕ) → p * o' + l' * o ≡ p' * o + l * o'
          → (q * p + m * l) * (w * o') + (q * l' + m * p') * (w * o) ≡ (q * p' + m * l') * (w * o) + (q * l + m * p) * (w * o')
      shape p l o p' l' o' q m w e =
          before p l o p' l' o' q m w ∙ ap₂ (λ (s t : ℕ). q * w * s + m * w * t) e (sym e) ∙ after p l o p' l' o' q m w
        where
          before :
              (p l o p' l' o' q m w : ℕ)
              → (q * p + m * l) * (w * o') + (q * l' + m * p') * (w * o) ≡ q * w * (p * o' + l' * o) + m * w * (p' * o + l * o')
          before p l o p' l' o' q m w = omega arith

          after :
              (p l o p' l' o' q m w : ℕ)
              → q * w * (p' * o + l * o') + m * w * (p * o' + l' * o) ≡ (q * p' + m * l') * (w * o) + (q * l + m * p) * (w * o')
          after p l o p' l' o' q m w = omega arith

  minus-left : Same (minus x y) (minus x' y)
  minus-left =
      record {
        crosswise = shape x.plus x.less x.over x'.plus x'.less x'.over y.plus y.less y.over e.crosswise;
      }
    where
      shape :
          (p l o p' l' o' q m w : ℕ) → p * o' + l' * o ≡ p' * o + l * o'
          → (p * w + m * o) * (o' * w) + (l' * w + q * o') * (o * w) ≡ (p' * w + m * o') * (o * w) + (l * w + q * o) * (o' * w)
      shape p l o p' l' o' q m w e =
          before p l o p' l' o' q m w ∙ ap (λ (t : ℕ). w * w * t + (q + m) * o * o' * w) e ∙ after p l o p' l' o' q m w
        where
          before :
              (p l o p' l' o' q m w : ℕ)
              → (p * w + m * o) * (o' * w) + (l' * w + q * o') * (o * w) ≡ w * w * (p * o' + l' * o) + (q + m) * o * o' * w
          before p l o p' l' o' q m w = omega arith

          after :
              (p l o p' l' o' q m w : ℕ)
              → w * w * (p' * o + l * o') + (q + m) * o * o' * w ≡ (p' * w + m * o') * (o * w) + (l * w + q * o) * (o' * w)
          after p l o p' l' o' q m w = omega arith

  minus_right : Same (minus y x) (minus y x')
  minus_right =
      record {
        crosswise = shape x.plus x.less x.over x'.plus x'.less x'.over y.plus y.less y.over e.crosswise;
      }
    where
      shape :
          (p l o p' l' o' q m w : ℕ) → p * o' + l' * o ≡ p' * o + l * o'
          → (q * o + l * w) * (w * o') + (m * o' + p' * w) * (w * o) ≡ (q * o' + l' * w) * (w * o) + (m * o + p * w) * (w * o')
      shape p l o p' l' o' q m w e =
          before p l o p' l' o' q m w ∙ ap (λ (t : ℕ). w * w * t + (q + m) * o * o' * w) (sym e) ∙ after p l o p' l' o' q m w
        where
          before :
              (p l o p' l' o' q m w : ℕ)
              → (q * o + l * w) * (w * o') + (m * o' + p' * w) * (w * o) ≡ w * w * (p' * o + l * o') + (q + m) * o * o' * w
          before p l o p' l' o' q m w = omega arith

          after :
              (p l o p' l' o' q m w : ℕ)
              → w * w * (p * o' + l' * o) + (q + m) * o * o' * w ≡ (q * o' + l' * w) * (w * o) + (m * o + p * w) * (w * o')
          after p l o p' l' o' q m w = omega arith

pub same_times : {x x' y y' : Signed} → 0 < x'.over → 0 < y.over → Same x x' → Same y y' → Same (times x y) (times x' y')
same_times {x} {x'} {y} {y'} px py e f = same_through (mul-pos px py) (times-left e y) (times_right f x')

pub same_minus : {x x' y y' : Signed} → 0 < x'.over → 0 < y.over → Same x x' → Same y y' → Same (minus x y) (minus x' y')
same_minus {x} {x'} {y} {y'} px py e f = same_through (mul-pos px py) (minus-left e y) (minus_right f x')

-- ---- the sign

sign_shape : (p l o q m w : ℕ) → 0 < w → p * w + m * o ≡ q * o + l * w → l < p → m < q
sign_shape p l o q m w pw e h = lt_of_mul-lt-mul_right o (go (p * w) (l * w) (m * o) (q * o) (mul-lt-mul_of_pos_right h pw) e)
  where
    go : (a b c d : ℕ) → b < a → a + c ≡ d + b → c < d
    go a b c d h e = omega arith

pub above_moves : {x y : Signed} → 0 < y.over → Same x y → AboveZero x → AboveZero y
above_moves {x} {y} py e h = sign_shape x.plus x.less x.over y.plus y.less y.over py e.crosswise h

pub below_moves : {x y : Signed} → 0 < y.over → Same x y → BelowZero x → BelowZero y
below_moves {x} {y} py e h = sign_shape x.less x.plus x.over y.less y.plus y.over py (turned _ _ _ _ _ _ e.crosswise) h
  where
    turned : (p l o q m w : ℕ) → p * w + m * o ≡ q * o + l * w → l * w + q * o ≡ m * o + p * w
    turned p l o q m w e = omega arith
