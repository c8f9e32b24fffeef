-- Plus infinity and NaN: nothing is beyond such a margin. What of a formula makes it so. Assumes nothing.
use mathlib.Core.Bool.{Bool, true, false, not, cond}
use lib.Dec.{T, eqb}
use lib.Ieee.{Float, nan, inf, fin, add, mul, div, lt, of_bits}
use lib.Ieee.Scale.{finite}
use Rattle.double.specs.Operators.{◌⊕◌, ◌⊗◌, ◌⊘◌, ◌≺◌}
use Rattle.double.specs.Numbers.{#0}
use Rattle.double.specs.Sizes.{abs_of}
use Rattle.promises.proofs.undecided.Unsigned.{unsigned}

abbrev pub boundless : Float → Bool
boundless nan = true
boundless (inf s) = not s
boundless (fin s m e) = false

pub abs_boundless : (x : Float) → T (not (finite x)) → T (boundless (abs_of x))
unfolding abs_of
abs_boundless nan h = tt
abs_boundless (inf s) h = tt
abs_boundless (fin s m e) h = absurd h

pub square_boundless : (x : Float) → T (not (finite x)) → T (boundless (x ⊗ x))
unfolding mul
square_boundless nan h = tt
square_boundless (inf true) h = tt
square_boundless (inf false) h = tt
square_boundless (fin s m e) h = absurd h

-- a sum, by either part: the two infinities together are a NaN
pub left-boundless : (x y : Float) → T (boundless x) → T (boundless (x ⊕ y))
unfolding add
left-boundless nan y h = tt
left-boundless (inf true) y h = absurd h
left-boundless (inf false) nan h = tt
left-boundless (inf false) (inf true) h = tt
left-boundless (inf false) (inf false) h = tt
left-boundless (inf false) (fin t n d) h = tt
left-boundless (fin s m e) y h = absurd h

pub right_boundless : (x y : Float) → T (boundless y) → T (boundless (x ⊕ y))
unfolding add
right_boundless nan y h = tt
right_boundless (inf s) nan h = tt
right_boundless (inf s) (inf true) h = absurd h
right_boundless (inf true) (inf false) h = tt
right_boundless (inf false) (inf false) h = tt
right_boundless (inf s) (fin t n d) h = absurd h
right_boundless (fin s m e) nan h = tt
right_boundless (fin s m e) (inf t) h = h
right_boundless (fin s m e) (fin t n d) h = absurd h

nothing-or : (b : Bool) → T (boundless (cond b nan (inf false)))
nothing-or true = tt
nothing-or false = tt

-- a product with a number that has no sign: 0 times infinity is a NaN
pub times-boundless : (x y : Float) → T (unsigned x) → T (boundless y) → T (boundless (x ⊗ y))
unfolding mul
times-boundless nan y h k = tt
times-boundless (inf true) y h k = absurd h
times-boundless (inf false) nan h k = tt
times-boundless (inf false) (inf true) h k = absurd k
times-boundless (inf false) (inf false) h k = tt
times-boundless (inf false) (fin t n d) h k = absurd k
times-boundless (fin true m e) y h k = absurd h
times-boundless (fin false m e) nan h k = tt
times-boundless (fin false m e) (inf true) h k = absurd k
times-boundless (fin false m e) (inf false) h k = nothing-or (eqb m 0)
times-boundless (fin false m e) (fin t n d) h k = absurd k

pub boundless-times : (x y : Float) → T (boundless x) → T (unsigned y) → T (boundless (x ⊗ y))
unfolding mul
boundless-times nan y h k = tt
boundless-times (inf true) y h k = absurd h
boundless-times (inf false) nan h k = tt
boundless-times (inf false) (inf true) h k = absurd k
boundless-times (inf false) (inf false) h k = tt
boundless-times (inf false) (fin true n d) h k = absurd k
boundless-times (inf false) (fin false n d) h k = nothing-or (eqb n 0)
boundless-times (fin s m e) y h k = absurd h

pub boundless-over : (x y : Float) → T (boundless x) → T (unsigned y) → T (boundless (x ⊘ y))
unfolding div
boundless-over nan y h k = tt
boundless-over (inf true) y h k = absurd h
boundless-over (inf false) nan h k = tt
boundless-over (inf false) (inf t) h k = tt
boundless-over (inf false) (fin true n d) h k = absurd k
boundless-over (inf false) (fin false n d) h k = tt
boundless-over (fin s m e) y h k = absurd h

-- what passes a sign test and is not finite is plus infinity
pub above-boundless : (x : Float) → T (#0 ≺ x) → T (not (finite x)) → T (boundless x)
unfolding lt of_bits
above-boundless nan h k = tt
above-boundless (inf true) h k = absurd h
above-boundless (inf false) h k = tt
above-boundless (fin s m e) h k = absurd k
