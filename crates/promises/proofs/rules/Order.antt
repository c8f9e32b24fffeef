-- `x ≼ y` goes on through a third number, and a change of sign turns it round: infinities and both zeros included. Assumes nothing.
use Prim.Native.Nat.{ℕ, zero, suc, ◌+◌, ◌*◌, ◌≤◌, ◌<◌}
use native.Mathlib.Nat.{zero-mul, mul-le-mul_right, le_of_mul-le-mul_right}
use native.Mathlib.Omega.{arith}
use mathlib.Core.Path.{◌≡◌, refl, sym, ap, subst, ◌∙◌}
use mathlib.Core.Bool.{Bool, true, false, not, ◌&&◌, ◌||◌}
use lib.Dec.{eqb, ltb}
use lib.Ieee.{Float, nan, inf, fin, up, down, below, level, lt, eq, le, neg}
use lib.Ieee.Fits.{down_pos}
use borrow.Author.Tests.{ltb-true, ltb-false, eqb-true, eq-eqb}
use Rattle.arith.proofs.Branches.{and_left, and_right, false_not_true}
use Rattle.double.specs.Operators.{◌≼◌}

-- ---- ±a is at most ±b

abbrev AtMost : Bool → ℕ → Bool → ℕ → Type 0
AtMost false a false b = a ≤ b
AtMost false a true b = (a ≡ 0) × (b ≡ 0)
AtMost true a false b = Unit {0}
AtMost true a true b = b ≤ a

abbrev test : Bool → ℕ → Bool → ℕ → Bool
test s a t b = below s a t b || level s a t b

less_or_same : (a b : ℕ) (r p q : Bool) → ltb a b ≡ p → eqb a b ≡ q → (p || (q && r)) ≡ true → a ≤ b
less_or_same a b r true q e f h = omega (arith, ltb-true a b e)
less_or_same a b r false true e f h = omega (arith, eqb-true a b f)
less_or_same a b r false false e f h = absurd (false_not_true h)

more_or_same : (a b : ℕ) (r p q : Bool) → ltb b a ≡ p → eqb a b ≡ q → (p || (q && r)) ≡ true → b ≤ a
more_or_same a b r true q e f h = omega (arith, ltb-true b a e)
more_or_same a b r false true e f h = omega (arith, eqb-true a b f)
more_or_same a b r false false e f h = absurd (false_not_true h)

both_zero : (a b : ℕ) → (eqb a b && eqb a 0) ≡ true → (a ≡ 0) × (b ≡ 0)
both_zero a b h =
    let same = eqb-true a b (and_left (eqb a b) (eqb a 0) h) in
    let none = eqb-true a 0 (and_right (eqb a b) (eqb a 0) h) in
    (none, omega (arith, same, none))

at_most : (s : Bool) (a : ℕ) (t : Bool) (b : ℕ) → test s a t b ≡ true → AtMost s a t b
at_most false a false b h = less_or_same a b _ (ltb a b) (eqb a b) refl refl h
at_most false a true b h = both_zero a b h
at_most true a false b h = tt
at_most true a true b h = more_or_same a b _ (ltb b a) (eqb a b) refl refl h

less_told : (a b : ℕ) (p : Bool) → ltb a b ≡ p → a ≤ b → (p || (eqb a b && true)) ≡ true
less_told a b true e h = refl
less_told a b false e h = rw (eq-eqb a b (omega (arith, ltb-false a b e)))

more_told : (a b : ℕ) (p : Bool) → ltb b a ≡ p → b ≤ a → (p || (eqb a b && true)) ≡ true
more_told a b true e h = refl
more_told a b false e h = rw (eq-eqb a b (omega (arith, ltb-false b a e)))

signs_told : (a b : ℕ) (p : Bool) → ltb 0 (a + b) ≡ p → (p || (eqb a b && eqb a 0)) ≡ true
signs_told a b true e = refl
signs_told a b false e =
    let none = ltb-false 0 (a + b) e in
    rw (eq-eqb a b (omega (arith, none)), eq-eqb a 0 (omega (arith, none)))

told : (s : Bool) (a : ℕ) (t : Bool) (b : ℕ) → AtMost s a t b → test s a t b ≡ true
told false a false b h = less_told a b (ltb a b) refl h
told false a true b h = rw (eq-eqb a b (omega (arith, h.0, h.1)), eq-eqb a 0 h.0)
told true a false b h = signs_told a b (ltb 0 (a + b)) refl
told true a true b h = more_told a b (ltb b a) refl h

-- ---- the fractions x / a, y / b and z / c, compared as products

on : (a b c x y z : ℕ) → 0 < b → x * b ≤ y * a → y * c ≤ z * b → x * c ≤ z * a
on a b c x y z over g h =
    le_of_mul-le-mul_right {k = b} (omega (arith, mul-le-mul_right c g, mul-le-mul_right a h)) over

none : (b x : ℕ) → 0 < b → x * b ≤ 0 → x ≡ 0
none b zero over h = refl
none b (suc x) over h = absurd (omega (arith, h, over))

no_part : (x c : ℕ) → x ≡ 0 → x * c ≡ 0
no_part x c e = ap (λ (k : ℕ). k * c) e ∙ zero-mul c

module _ (a b c : ℕ) (over-a : 0 < a) (over-b : 0 < b) (over-c : 0 < c) (x y z : ℕ) where
  through : (s t u : Bool) → AtMost s (x * b) t (y * a) → AtMost t (y * c) u (z * b) → AtMost s (x * c) u (z * a)
  through false false false g h = on a b c x y z over-b g h
  through false false true g h =
      let y_none = none c y over-c (omega (arith, h.0)) in
      let x-none = none b x over-b (omega (arith, g, no_part y a y_none)) in
      (no_part x c x-none, no_part z a (none b z over-b (omega (arith, h.1))))
  through false true false g h = omega (arith, no_part x c (none b x over-b (omega (arith, g.0))))
  through false true true g h =
      let y_none = none a y over-a (omega (arith, g.1)) in
      let z_none = none b z over-b (omega (arith, h, no_part y c y_none)) in
      (no_part x c (none b x over-b (omega (arith, g.0))), no_part z a z_none)
  through true false false g h = tt
  through true false true g h = omega (arith, no_part z a (none b z over-b (omega (arith, h.1))))
  through true true false g h = tt
  through true true true g h = on c b a z y x over-b h g

-- ---- doubles

not_below_nan : (y : Float) → (y ≼ nan) ≡ true → ⊥
unfolding le lt eq
not_below_nan nan h = false_not_true h
not_below_nan (inf s) h = false_not_true h
not_below_nan (fin s m e) h = false_not_true h

-- what infinity is at most
top : (z : Float) → (inf false ≼ z) ≡ true → z ≡ inf false
unfolding le lt eq
top nan h = absurd (false_not_true h)
top (inf true) h = absurd (false_not_true h)
top (inf false) h = refl
top (fin u k g) h = absurd (false_not_true h)

bottom : (z : Float) → ((z ≼ nan) ≡ true → ⊥) → (y : Float) → (y ≼ z) ≡ true → (inf true ≼ z) ≡ true
unfolding le lt eq
bottom nan n y h = absurd (not_below_nan y h)
bottom (inf true) n y h = refl
bottom (inf false) n y h = refl
bottom (fin u k g) n y h = refl

pub at_most_through : (x y z : Float) → (x ≼ y) ≡ true → (y ≼ z) ≡ true → (x ≼ z) ≡ true
unfolding le lt eq
at_most_through nan y z g h = absurd (false_not_true g)
at_most_through (inf true) y z g h = bottom z (not_below_nan z) y h
at_most_through (inf false) y z g h = subst (λ (w : Float). (w ≼ z) ≡ true) (top y g) h
at_most_through (fin s m e) nan z g h = absurd (false_not_true g)
at_most_through (fin s m e) (inf true) z g h = absurd (false_not_true g)
at_most_through (fin s m e) (inf false) z g h = subst (λ (w : Float). (fin s m e ≼ w) ≡ true) (sym (top z h)) refl
at_most_through (fin s m e) (fin t n d) nan g h = absurd (false_not_true h)
at_most_through (fin s m e) (fin t n d) (inf true) g h = absurd (false_not_true h)
at_most_through (fin s m e) (fin t n d) (inf false) g h = refl
at_most_through (fin s m e) (fin t n d) (fin u k j) g h =
    told s (m * up e * down j) u (k * up j * down e)
    (through (down e) (down d) (down j) (down_pos e) (down_pos d) (down_pos j) (m * up e) (n * up d) (k * up j) s t u
    (at_most s (m * up e * down d) t (n * up d * down e) g)
    (at_most t (n * up d * down j) u (k * up j * down d) h))

turned_round : (s : Bool) (a : ℕ) (t : Bool) (b : ℕ) → AtMost s a t b → AtMost (not t) b (not s) a
turned_round false a false b h = h
turned_round false a true b h = (h.1, h.0)
turned_round true a false b h = tt
turned_round true a true b h = h

pub signs-turn : (x y : Float) → (x ≼ y) ≡ true → (neg y ≼ neg x) ≡ true
unfolding le lt eq neg
signs-turn nan y h = absurd (false_not_true h)
signs-turn (inf s) nan h = absurd (not_below_nan (inf s) h)
signs-turn (inf true) (inf true) h = refl
signs-turn (inf true) (inf false) h = refl
signs-turn (inf false) (inf true) h = absurd (false_not_true h)
signs-turn (inf false) (inf false) h = refl
signs-turn (inf true) (fin t n d) h = refl
signs-turn (inf false) (fin t n d) h = absurd (false_not_true h)
signs-turn (fin s m e) nan h = absurd (false_not_true h)
signs-turn (fin s m e) (inf true) h = absurd (false_not_true h)
signs-turn (fin s m e) (inf false) h = refl
signs-turn (fin s m e) (fin t n d) h =
    let a = m * up e * down d in
    let b = n * up d * down e in
    told (not t) b (not s) a (turned_round s a t b (at_most s a t b h))
