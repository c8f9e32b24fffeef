-- The unit start is finite, so that `unit_initialization` never gives 7: each of its numbers is +0, a constant, or the root of 1 + x with an x
-- from 0 to 1, and so of a number from 1 to 2. Assumes nothing.
use Prim.Native.Nat.{ℕ, zero, suc, ◌+◌, ◌-◌, ◌*◌, ◌^◌, ◌≤◌, ◌<◌}
use mathlib.Core.Path.{◌≡◌, refl, sym, ap, subst, ◌∙◌}
use mathlib.Core.Bool.{Bool, true, false, cond, ◌&&◌, ◌||◌}
use mathlib.Core.List.{List, [], ◌∷◌, ◌++◌}
use native.Mathlib.Omega.{arith}
use lib.Dec.{T, eqb, ltb, leb}
use lib.IntN.{ℤ}
use lib.Pow.{pow_pos}
use lib.Ieee.{Float, nan, inf, fin, up, down, neg, binary64, of_bits, round, sum, add, sub, lt, eq, le}
use lib.Ieee.Bits.{is_true}
use lib.Ieee.Exact.{HasValue}
use lib.Ieee.Fits.{down_pos, add-fits}
use lib.Ieee.Order.{round_mono}
use lib.Ieee.Positive.{between, value_pos}
use lib.Ieee.Scale.{finite, grid, round_val, round_under}
use lib.ListN.{length, take, replicate}
use borrow.Author.Tests.{ltb-true, eqb-true, le-ltb}
use Rattle.arith.proofs.Branches.{and_left, and_right, and_both, false_not_true}
use Rattle.rounding.specs.Units.{units_of}
use Rattle.rounding.proofs.Units.{is-units}
use Rattle.double.specs.Operators.{◌⊕◌, ◌⊖◌, ◌≺◌, ◌≼◌, at}
use Rattle.double.specs.Numbers.{dec, #0, #1, #2}
use Rattle.double.proofs.Fields.{finite_of_value}
use Rattle.double.proofs.Numbers.{names_right}
use Rattle.root.proofs.Theorem.{square_root}
use Rattle.kernels.specs.Door.{sqrt_of}
use Rattle.cone.specs.declared.Cone.{Cone}
use Rattle.cone.specs.Points.{padded}
use Rattle.judges.specs.Judges.{all_of, all_finite, power_ok, exponent_ok, tolerance_of, sum_ok, wide_ok, cone_ok}
use Rattle.judges.specs.Refusals.{publish_two_of}
use Rattle.search.proofs.Settings.{of_true}
use Rattle.expcone.specs.PrimalGradient as exp
use Rattle.powcone.specs.PrimalGradient as pow
use Rattle.genpowcone.specs.PrimalGradient as genpow
use Rattle.genpowcone.specs.loops.Places.{unit_head}
use Rattle.kinds.specs.Cones.{alpha_of}
use Rattle.kinds.specs.Three as three
use Rattle.kinds.specs.Wide as general
use Rattle.kinds.proofs.EachKind.{each_kind}

-- ---- a number from 0 to 1

abbrev Part : Float → Type 0
Part nan = ⊥
Part (inf s) = ⊥
Part (fin true m e) = ⊥
Part (fin false m e) = m * up e ≤ down e

at_most : (a b : ℕ) (p q : Bool) → ltb a b ≡ p → eqb a b ≡ q → T (p || (q && true)) → a ≤ b
at_most a b true q e f h = omega (arith, ltb-true a b e)
at_most a b false true e f h = omega (arith, eqb-true a b f)
at_most a b false false e f h = absurd h

part_of-test : (m : ℕ) (e : ℤ) → T (fin false m e ≼ #1) → m * up e ≤ down e
unfolding le lt eq of_bits
part_of-test m e h =
    let a = m * up e * 1 in
    let b = 1 * 1 * down e in
    let le : a ≤ b = at_most a b (ltb a b) (eqb a b) refl refl h in omega arith

-- one with a sign of its own is none
no_sign : (x : Float) (g : ℕ) → HasValue x false g (2 ^ 1074) → T (x ≼ #1) → Part x
no_sign nan g v h = v
no_sign (inf s) g v h = v
no_sign (fin true m e) g v h = false_not_true (sym v.0)
no_sign (fin false m e) g v h = part_of-test m e h

-- an exponent: above 0, and at most 1
part_of_exponent : (x : Float) → T (#0 ≺ x) → T (x ≼ #1) → Part x
unfolding lt le eq of_bits
part_of_exponent nan p h = p
part_of_exponent (inf true) p h = p
part_of_exponent (inf false) p h = h
part_of_exponent (fin true m e) p h = p
part_of_exponent (fin false m e) p h = part_of-test m e h

less_at-most : (x y : Float) → T (x ≺ y) → T (x ≼ y)
unfolding le
less_at-most x y h = go (x ≺ y) h
  where
    go : (b : Bool) → T b → T (b || eq x y)
    go true t = tt
    go false t = absurd t

-- ---- rounded numbers

one_rounded : #1 ≡ round binary64 false 1 (10 ^ 0)
unfolding dec
one_rounded = names_right.n1_right

two_rounded : #2 ≡ round binary64 false 2 (10 ^ 0)
unfolding dec
two_rounded = names_right.n2_right

zero_rounded : #0 ≡ round binary64 false 0 (10 ^ 0)
unfolding dec
zero_rounded = names_right.zero_right

finite_between : (x : Float) → T (#0 ≼ x) → T (x ≼ #1) → T (finite x)
unfolding le lt eq of_bits
finite_between nan p h = p
finite_between (inf true) p h = p
finite_between (inf false) p h = h
finite_between (fin s m e) p h = tt

-- a fraction from 0 to 1, rounded
part_of-fraction : (a c : ℕ) → 0 < c → a ≤ c → Part (round binary64 false a c)
part_of-fraction a c pos h =
    let x = round binary64 false a c in
    let low : T (#0 ≼ x) =
    subst (λ (y : Float). T (y ≼ x)) (sym zero_rounded) (round_mono binary64 0 (10 ^ 0) a c (omega arith) pos (omega arith)) in
    let high : T (x ≼ #1) =
    subst (λ (y : Float). T (x ≼ y)) (sym one_rounded) (round_mono binary64 a c 1 (10 ^ 0) pos (omega arith) (omega arith)) in
    no_sign x (grid binary64 a c) (round_val binary64 a c (round_under binary64 a c (finite_between x low high))) high

-- ---- 1 + x and 1 - x

sum_is : (m : ℕ) (e : ℤ) → (#1 ⊕ fin false m e) ≡ round binary64 false (down e + m * up e) (down e)
unfolding add sum of_bits
sum_is m e =
    let numerator : 1 * 1 * down e + m * up e * 1 ≡ down e + m * up e = omega arith in
    let denominator : 1 * down e ≡ down e = omega arith in
    ap (λ (n : ℕ). round binary64 false n (1 * down e)) numerator ∙ ap (round binary64 false (down e + m * up e)) denominator

difference_is : (m : ℕ) (e : ℤ) → m * up e ≤ down e → (#1 ⊖ fin false m e) ≡ round binary64 false (down e - m * up e) (down e)
unfolding sub add neg sum of_bits
difference_is m e h =
    let numerator : 1 * 1 * down e - m * up e * 1 ≡ down e - m * up e = omega arith in
    let denominator : 1 * down e ≡ down e = omega arith in
    rw (le-ltb (1 * 1 * down e) (m * up e * 1) (omega arith))
    (ap (λ (n : ℕ). round binary64 false n (1 * down e)) numerator ∙ ap (round binary64 false (down e - m * up e)) denominator)

part_of_difference : (x : Float) → Part x → Part (#1 ⊖ x)
part_of_difference nan p = absurd p
part_of_difference (inf s) p = absurd p
part_of_difference (fin true m e) p = absurd p
part_of_difference (fin false m e) p = rw (difference_is m e p) (part_of-fraction (down e - m * up e) (down e) (down_pos e) (omega arith))

-- from 1 to 2
sum_between : (x : Float) → Part x → T (#1 ≼ (#1 ⊕ x)) × T ((#1 ⊕ x) ≼ #2)
sum_between nan p = absurd p
sum_between (inf s) p = absurd p
sum_between (fin true m e) p = absurd p
sum_between (fin false m e) p =
    let d = down e in
    let n = down e + m * up e in
    rw (sum_is m e) (
      subst (λ (y : Float). T (y ≼ round binary64 false n d)) (sym one_rounded)
          (round_mono binary64 1 (10 ^ 0) n d (omega arith) (down_pos e) (omega arith)),
      subst (λ (y : Float). T (round binary64 false n d ≼ y)) (sym two_rounded)
          (round_mono binary64 n d 2 (10 ^ 0) (down_pos e) (omega arith) (omega arith)),
    )

-- so its root is finite
root_finite : (x : Float) → Part x → finite (sqrt_of (#1 ⊕ x)) ≡ true
unfolding of_bits
root_finite x p =
    let y = #1 ⊕ x in
    let b = sum_between x p in
    let positive = between #1 y #2 tt tt b.0 b.1 in
    let double = add-fits binary64 #1 x in
    let units = is-units binary64 y double positive in
    let some = value_pos y (units_of binary64 y) (2 ^ 1074) positive (pow_pos 1074) units in
    is_true _ (finite_of_value (sqrt_of y) false _ _ (square_root.nearest y (units_of binary64 y) double units some).r-is)

-- ---- lists of finite numbers

all_append : (l m : List Float) → all_finite l ≡ true → all_finite m ≡ true → all_finite (l ++ m) ≡ true
unfolding all_of
all_append [] m h f = f
all_append (y ∷ l) m h f =
    and_both _ _ (and_left (finite y) (all_finite l) h) (all_append l m (and_right (finite y) (all_finite l) h) f)

all_zero : (n : ℕ) → all_finite (replicate n #0) ≡ true
unfolding all_of of_bits
all_zero zero = refl
all_zero (suc n) = all_zero n

all_take : (n : ℕ) (l : List Float) → all_finite l ≡ true → all_finite (take n l) ≡ true
unfolding all_of
all_take zero l h = refl
all_take (suc n) [] h = refl
all_take (suc n) (y ∷ l) h = and_both _ _ (and_left (finite y) (all_finite l) h) (all_take n l (and_right (finite y) (all_finite l) h))

-- ---- the unit start, by kind

power_finite : (α : Float) → power_ok α ≡ true → all_finite (pow.unit_initialization_of α) ≡ true
unfolding pow.unit_initialization_of all_of of_bits
power_finite α ok =
    let above = of_true _ (and_left (#0 ≺ α) (α ≺ #1) ok) in
    let below = less_at-most α #1 (of_true _ (and_right (#0 ≺ α) (α ≺ #1) ok)) in
    let part = part_of_exponent α above below in
    rw (root_finite α part, root_finite (#1 ⊖ α) (part_of_difference α part))

heads_finite : (α : List Float) → all_of exponent_ok α ≡ true → all_finite (unit_head α) ≡ true
unfolding all_of
heads_finite [] ok = refl
heads_finite (x ∷ α) ok =
    let e = and_left (exponent_ok x) (all_of exponent_ok α) ok in
    let part = part_of_exponent x (of_true _ (and_left (#0 ≺ x) (x ≼ #1) e)) (of_true _ (and_right (#0 ≺ x) (x ≼ #1) e)) in
    and_both _ _ (root_finite x part) (heads_finite α (and_right (exponent_ok x) (all_of exponent_ok α) ok))

exponents_finite : (α : List Float) → all_of exponent_ok α ≡ true → all_finite (genpow.unit_initialization_of α) ≡ true
unfolding genpow.unit_initialization_of padded
exponents_finite α ok = all_append (unit_head α) _ (heads_finite α ok) (all_zero (64 - length (unit_head α)))

-- what is published
abbrev start : Cone → ℕ → List Float
start c n = cond (eqb c.kind 3) (take n (general.unit_initialization_of c.exps c.dim1)) (three.unit_initialization_of c.kind (alpha_of c))

pub start_finite : (c : Cone) (n : ℕ) → cone_ok c ≡ true → all_finite (start c n) ≡ true
unfolding three.unit_initialization_of general.unit_initialization_of exp.unit_initialization_of wide_ok all_of neg of_bits
start_finite c n ok =
    each_kind (λ (d : Cone). all_finite (start d n) ≡ true) c.dim1 c.dim2 c.rule c.exps refl
    (λ power. power_finite (at c.exps 0) power)
    (λ wide_ok.
    let α = take c.dim1 c.exps in
    let dims = leb 1 c.dim1 && leb c.dim1 32 && leb 1 c.dim2 && leb c.dim2 32 in
    all_take n (genpow.unit_initialization_of α) (exponents_finite α
    (and_right dims (all_of exponent_ok α) (and_left (dims && all_of exponent_ok α) (sum_ok α (tolerance_of c.rule)) wide_ok))))
    c.kind ok

-- so it is done
published_done : (is-3 : Bool) (z s a b : List Float) → all_finite (cond is-3 a b) ≡ true
    → (cond is-3 (publish_two_of z s a a) (publish_two_of z s b b)).answer ≡ 0
unfolding publish_two_of
published_done true z s a b f = rw f
published_done false z s a b f = rw f

pub unit_done : (c : Cone) (z s : List Float) → cone_ok c ≡ true
    → let generalized = take (length z) (general.unit_initialization_of c.exps c.dim1) in
    let unit = three.unit_initialization_of c.kind (alpha_of c) in
    (cond (eqb c.kind 3) (publish_two_of z s generalized generalized) (publish_two_of z s unit unit)).answer ≡ 0
unit_done c z s ok = published_done (eqb c.kind 3) z s _ _ (start_finite c (length z) ok)
