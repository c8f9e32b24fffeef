-- The error of a sum and of a difference: within 2^-p of what the two sizes add up to, and half a unit. Any signs. Assumes nothing.
-- The exact sum is at most what the sizes add up to, so that this is more than its own error; no law that stands on it needs less.
use mathlib.Core.Path.{◌≡◌, refl, sym, ap, ap₂, ◌∙◌, subst}
use mathlib.Core.Bool.{Bool, true, false, not, cond, ◌&&◌, true≢false}
use Prim.Native.Nat.{ℕ, ◌+◌, ◌-◌, ◌*◌, ◌^◌, ◌≤◌, ◌<◌}
use native.Mathlib.Nat.{le_trans, le_of_eq, le_of_lt, mul-pos, add_comm, add-mul, mul_comm, mul-sub, mul-le-mul_right, mul-le-mul_left}
use native.Mathlib.Nat.{add-le-add, le_of_mul-le-mul_left, le_of_mul-le-mul_right}
use native.Mathlib.Omega.{arith}
use lib.Dec.{ltb}
use lib.Pow.{pow_pos}
use lib.Ieee.{Float, nan, inf, fin, Format, prec, emax, low, up, down, round, sum, add, sub, neg}
use lib.Ieee.Fits.{down_pos}
use lib.Ieee.Scale.{round_same}
use borrow.Author.Tests.{ltb-true, ltb-false}
use Rattle.rounding.specs.Within.{Within}
use Rattle.rounding.specs.errors.Errors.{above, below, InUnits, Rounded}
use Rattle.rounding.proofs.errors.Rounded.{half_of, rounded_near}

-- r is ±x ± y, but for the error: above - below on both sides, taken over to where it is added
pub record Added (f : Format) (r : Float) (s : Bool) (a : ℕ) (t : Bool) (b : ℕ) : Type 0 where
  pub sign : Bool
  pub units : ℕ
  pub is : InUnits f r sign units
  pub near :
      Within (2 ^ prec f * (above sign units + (below s a + below t b))) (2 ^ prec f * (below sign units + (above s a + above t b)))
      (a + b + 2 ^ (prec f - 1))

-- ---- from the size of the exact sum to the sum

sized_near :
    (r : Bool) (g n P H m p z : ℕ) → above r n + m ≡ below r n + p → n ≤ z → Within (g * P) (n * P) (n + H)
    → Within (P * (above r g + m)) (P * (below r g + p)) (z + H)
sized_near false g n P H m p z e l w =
    record {
      not-above = omega (arith, w.not-above, ap (λ (t : ℕ). P * t) e);
      not-below = omega
          (arith, w.not-below, ap (λ (t : ℕ). P * t) e);
    }
sized_near true g n P H m p z e l w =
    record {
      not-above = omega (arith, w.not-below, ap (λ (t : ℕ). P * t) e);
      not-below = omega
          (arith, w.not-above, ap (λ (t : ℕ). P * t) e);
    }

pub cleared : (g C P N n U H : ℕ) → 0 < C → N * U ≡ n * C → Within (g * C * P) (N * U * P) (N * U + H * C) → Within (g * P) (n * P) (n + H)
cleared g C P N n U H pC e w = record {
  not-above = le_of_mul-le-mul_right {k = C} (omega (arith, w.not-above, ap (λ (t : ℕ). t * P) e)) pC;
  not-below = le_of_mul-le-mul_right {k = C} (omega (arith, w.not-below, ap (λ (t : ℕ). t * P) e)) pC;
}

-- x and y are A/C and B/C, and a/U and b/U
module _ (f : Format) (a b A B C : ℕ) (pC : 0 < C) (ea : A * 2 ^ low f ≡ a * C) (eb : B * 2 ^ low f ≡ b * C)
    (fine : a + b ≤ 2 ^ emax f * 2 ^ low f) where
  rounded_sum :
      (r s t : Bool) (N n : ℕ) → N * 2 ^ low f ≡ n * C → n ≤ a + b
      → above r n + (below s a + below t b) ≡ below r n + (above s a + above t b) → Added f (round f r N C) s a t b
  rounded_sum r s t N n e l h =
      let w : Rounded f (round f r N C) r N C = rounded_near f r N C pC most in
      record {
        sign = r;
        units = w.units;
        is = w.is;
        near =
            sized_near r w.units n (2 ^ prec f) (2 ^ (prec f - 1)) _ _ (a + b) h l
            (cleared w.units C (2 ^ prec f) N n (2 ^ low f) (2 ^ (prec f - 1)) pC e w.near);
      }
    where
      most : N ≤ 2 ^ emax f * C
      most = go (2 ^ low f) (2 ^ emax f) (pow_pos (low f)) e fine
        where
          go : (U M : ℕ) → 0 < U → N * U ≡ n * C → a + b ≤ M * U → N ≤ M * C
          go U M pU e k = le_of_mul-le-mul_right {k = U} (omega (arith, mul-le-mul_right C (le_trans l k))) pU

  joined : (A + B) * 2 ^ low f ≡ (a + b) * C
  joined = add-mul A B (2 ^ low f) ∙ ap₂ ◌+◌ ea eb ∙ sym (add-mul a b C)

  less : (X Y x y : ℕ) → X * 2 ^ low f ≡ x * C → Y * 2 ^ low f ≡ y * C → (X - Y) * 2 ^ low f ≡ (x - y) * C
  less X Y x y e h =
      mul_comm (X - Y) (2 ^ low f) ∙ mul-sub (2 ^ low f) X Y ∙ ap₂ ◌-◌ (mul_comm (2 ^ low f) X ∙ e ∙ mul_comm x C)
      (mul_comm (2 ^ low f) Y ∙ h ∙ mul_comm y C) ∙ sym (mul-sub C x y) ∙ mul_comm C (x - y)

  ordered : (X Y x y : ℕ) → X * 2 ^ low f ≡ x * C → Y * 2 ^ low f ≡ y * C → X ≤ Y → x ≤ y
  ordered X Y x y e h l =
      le_of_mul-le-mul_right {k = C}
      (subst (λ (z : ℕ). z ≤ y * C) e (subst (λ (z : ℕ). X * 2 ^ low f ≤ z) h (mul-le-mul_right (2 ^ low f) l))) pC

  apart : (x y : ℕ) → x - y ≤ x + y
  apart x y = omega arith

  apart_turned : (x y : ℕ) → y - x ≤ x + y
  apart_turned x y = omega arith

  -- one sign: the sizes add up
  alike : (s : Bool) → above s (a + b) + (below s a + below s b) ≡ below s (a + b) + (above s a + above s b)
  alike true = omega arith
  alike false = omega arith

  -- two signs, and |y| above |x|
  second_wins :
      (s : Bool) → a ≤ b → above (not s) (b - a) + (below s a + below (not s) b) ≡ below (not s) (b - a) + (above s a + above (not s) b)
  second_wins true l = omega arith
  second_wins false l = omega arith

  -- two signs, and |x| above |y|, or as large: then the sum is +0
  first_wins : (s : Bool) → b ≤ a → above s (a - b) + (below s a + below (not s) b) ≡ below s (a - b) + (above s a + above (not s) b)
  first_wins true l = omega arith
  first_wins false l = omega arith

  none_wins :
      (s : Bool) → a ≤ b → b ≤ a → above false (a - b) + (below s a + below (not s) b) ≡ below false (a - b) + (above s a + above (not s) b)
  none_wins true l k = omega arith
  none_wins false l k = omega arith

  unlike_signs : (s : Bool) → Added f (cond (ltb A B) (round f (not s) (B - A) C) (round f (s && ltb B A) (A - B) C)) s a (not s) b
  unlike_signs s = go (ltb A B) refl
    where
      back : (x : Bool) → ltb B A ≡ x → b ≤ a → (ltb B A ≡ false → a ≤ b) → Added f (round f (s && x) (A - B) C) s a (not s) b
      back true e l k =
          subst (λ (z : Bool). Added f (round f z (A - B) C) s a (not s) b) (sym (and_true s))
          (rounded_sum s s (not s) (A - B) (a - b) (less A B a b ea eb) (apart a b) (first_wins s l))
        where
          and_true : (s : Bool) → (s && true) ≡ s
          and_true true = refl
          and_true false = refl
      back false e l k =
          subst (λ (z : Bool). Added f (round f z (A - B) C) s a (not s) b) (sym (and_false s))
          (rounded_sum false s (not s) (A - B) (a - b) (less A B a b ea eb) (apart a b) (none_wins s (k e) l))
        where
          and_false : (s : Bool) → (s && false) ≡ false
          and_false true = refl
          and_false false = refl

      go : (x : Bool) → ltb A B ≡ x → Added f (cond x (round f (not s) (B - A) C) (round f (s && ltb B A) (A - B) C)) s a (not s) b
      go true e =
          rounded_sum (not s) s (not s) (B - A) (b - a) (less B A b a eb ea) (apart_turned a b)
          (second_wins s (ordered A B a b ea eb (le_of_lt (ltb-true A B e))))
      go false e = back (ltb B A) refl (ordered B A b a eb ea (ltb-false A B e)) (λ h. ordered A B a b ea eb (ltb-false B A h))

  summed : (s t : Bool) → Added f (sum f s A t B C) s a t b
  unfolding sum
  summed true true = rounded_sum true true true (A + B) (a + b) joined (le_of_eq refl) (alike true)
  summed false false = rounded_sum false false false (A + B) (a + b) joined (le_of_eq refl) (alike false)
  summed true false = unlike_signs true
  summed false true = unlike_signs false

pub add_near :
    (f : Format) (x y : Float) (s t : Bool) (a b : ℕ) → InUnits f x s a → InUnits f y t b → a + b ≤ 2 ^ emax f * 2 ^ low f
    → Added f (add f x y) s a t b
unfolding add
add_near f nan y s t a b h k l = absurd h
add_near f (inf i) y s t a b h k l = absurd h
add_near f (fin i m e) nan s t a b h k l = absurd k
add_near f (fin i m e) (inf j) s t a b h k l = absurd k
add_near f (fin i m e) (fin j n d) s t a b h k l =
    subst (λ (z : Bool). Added f (sum f z (m * up e * down d) j (n * up d * down e) (down e * down d)) s a t b) (sym h.0)
    (subst (λ (z : Bool). Added f (sum f s (m * up e * down d) z (n * up d * down e) (down e * down d)) s a t b) (sym k.0)
    (summed f a b (m * up e * down d) (n * up d * down e) (down e * down d) (mul-pos (down_pos e) (down_pos d))
    (over_first (m * up e) a (2 ^ low f) (down e) (down d) h.1) (over-second (n * up d) b (2 ^ low f) (down d) (down e) k.1) l s t))
  where
    over_first : (X x U D E : ℕ) → X * U ≡ x * D → X * E * U ≡ x * (D * E)
    over_first X x U D E h = omega (arith, ap (λ (t : ℕ). t * E) h)

    over-second : (X x U D E : ℕ) → X * U ≡ x * D → X * E * U ≡ x * (E * D)
    over-second X x U D E h = omega (arith, ap (λ (t : ℕ). t * E) h)

pub neg_units : (f : Format) (x : Float) (s : Bool) (a : ℕ) → InUnits f x s a → InUnits f (neg x) (not s) a
unfolding neg
neg_units f nan s a h = absurd h
neg_units f (inf i) s a h = absurd h
neg_units f (fin i m e) s a h = (ap not h.0, h.1)

pub sub_near :
    (f : Format) (x y : Float) (s t : Bool) (a b : ℕ) → InUnits f x s a → InUnits f y t b → a + b ≤ 2 ^ emax f * 2 ^ low f
    → Added f (sub f x y) s a (not t) b
unfolding sub
sub_near f x y s t a b h k l = add_near f x (neg y) s (not t) a b h (neg_units f y t b k) l

-- a sum is at most twice what the sizes add up to
pub added-most : {f : Format} {r : Float} {s : Bool} {a : ℕ} {t : Bool} {b : ℕ} → (d : Added f r s a t b) → d.units ≤ 2 * (a + b) + 1
added-most {f} {r} {s} {a} {t} {b} d = go d.sign d.near
  where
    low : (s : Bool) (n : ℕ) → below s n ≤ n
    low true n = le_of_eq refl
    low false n = omega arith

    high : (s : Bool) (n : ℕ) → above s n ≤ n
    high true n = omega arith
    high false n = le_of_eq refl

    twice : (g P H m p q z : ℕ) → 0 < P → P ≡ H * 2 → p + q ≤ z → P * (g + m) ≤ P * (0 + (p + q)) + (z + H) → g ≤ 2 * z + 1
    twice g P H m p q z pP e l h =
        le_of_mul-le-mul_left {k = P} (shape g P H m z e (le_trans h (add_right (z + H) (mul-le-mul_left P (plain (p + q) z l))))
        (mul-le-mul_right z pP)) pP
      where
        plain : (x z : ℕ) → x ≤ z → 0 + x ≤ z
        plain x z h = omega arith

        add_right : {x y : ℕ} (a : ℕ) → x ≤ y → x + a ≤ y + a
        add_right a h = omega arith

        shape : (g P H m z : ℕ) → P ≡ H * 2 → P * (g + m) ≤ P * z + (z + H) → 1 * z ≤ P * z → P * g ≤ P * (2 * z + 1)
        shape g P H m z e h k = omega arith

    go :
        (i : Bool)
        → Within (2 ^ prec f * (above i d.units + (below s a + below t b))) (2 ^ prec f * (below i d.units + (above s a + above t b)))
        (a + b + 2 ^ (prec f - 1))
        → d.units ≤ 2 * (a + b) + 1
    go false w =
        twice d.units (2 ^ prec f) (2 ^ (prec f - 1)) _ (above s a) (above t b) (a + b) (pow_pos (prec f)) (half_of f)
        (add-le-add (high s a) (high t b)) w.not-above
    go true w =
        twice d.units (2 ^ prec f) (2 ^ (prec f - 1)) _ (below s a) (below t b) (a + b) (pow_pos (prec f)) (half_of f)
        (add-le-add (low s a) (low t b)) w.not-below

-- ---- two numbers that are not negative

-- the sum is rounded from a + b
pub add_is :
    (f : Format) (x y : Float) (a b : ℕ) → InUnits f x false a → InUnits f y false b → add f x y ≡ round f false (a + b) (2 ^ low f)
unfolding add sum
add_is f nan y a b h k = absurd h
add_is f (inf i) y a b h k = absurd h
add_is f (fin i m e) nan a b h k = absurd k
add_is f (fin i m e) (inf j) a b h k = absurd k
add_is f (fin true m e) (fin j n d) a b h k = absurd (true≢false h.0)
add_is f (fin false m e) (fin true n d) a b h k = absurd (true≢false k.0)
add_is f (fin false m e) (fin false n d) a b h k =
    round_same f false (m * up e * down d + n * up d * down e) (down e * down d) (a + b) (2 ^ low f) (mul-pos (down_pos e) (down_pos d))
    (pow_pos (low f))
    (joined-over (m * up e) (n * up d) a b (2 ^ low f) (down e) (down d) h.1 k.1)
  where
    joined-over : (X Y x y U D E : ℕ) → X * U ≡ x * D → Y * U ≡ y * E → (X * E + Y * D) * U ≡ (x + y) * (D * E)
    joined-over X Y x y U D E h k = omega (arith, ap (λ (t : ℕ). t * E) h, ap (λ (t : ℕ). t * D) k)

pub record Totalled (f : Format) (r : Float) (n : ℕ) : Type 0 where
  pub units : ℕ
  pub is : InUnits f r false units
  pub near : Within (units * 2 ^ prec f) (n * 2 ^ prec f) (n + 2 ^ (prec f - 1))

pub total_near :
    (f : Format) (x y : Float) (a b : ℕ) → InUnits f x false a → InUnits f y false b → a + b ≤ 2 ^ emax f * 2 ^ low f
    → Totalled f (add f x y) (a + b)
total_near f x y a b h k l =
    let w : Rounded f (round f false (a + b) (2 ^ low f)) false (a + b) (2 ^ low f) =
    rounded_near f false (a + b) (2 ^ low f) (pow_pos (low f)) l in
    record {
      units = w.units;
      is = subst (λ (z : Float). InUnits f z false w.units) (sym (add_is f x y a b h k)) w.is;
      near = cleared w.units (2 ^ low f) (2 ^ prec f) (a + b) (a + b) (2 ^ low f) (2 ^ (prec f - 1)) (pow_pos (low f)) refl w.near;
    }

pub total_swapped : (f : Format) (x y : Float) (a b : ℕ) → InUnits f x false a → InUnits f y false b → add f x y ≡ add f y x
total_swapped f x y a b h k = add_is f x y a b h k ∙ ap (λ (t : ℕ). round f false t (2 ^ low f)) (add_comm a b) ∙ sym (add_is f y x b a k h)
