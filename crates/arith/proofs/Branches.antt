-- A choice whose test is known, and the parts of an `and` or an `or` that is known. Assumes nothing.
use Prim.Native.Nat.{ℕ}
use mathlib.Core.Path.{◌≡◌, refl, sym, ◌∙◌, ap}
use mathlib.Core.Bool.{Bool, true, false, cond, ◌&&◌, ◌||◌}
use native.Mathlib.Omega.{arith}

-- z is the choice, if it is the branch that the test picks. The branch that it does not pick is written out: nothing else shows it.
pub taken : {A : Type 0} {b : Bool} {x z : A} (y : A) → b ≡ true → z ≡ x → z ≡ cond b x y
taken {x = x} y e p = p ∙ sym (ap (λ (t : Bool). cond t x y) e)

pub left : {A : Type 0} {b : Bool} {y z : A} (x : A) → b ≡ false → z ≡ y → z ≡ cond b x y
left {y = y} x e p = p ∙ sym (ap (λ (t : Bool). cond t x y) e)

pub false_not_true : false ≡ true → ⊥
false_not_true h = let z : ◌≡◌ {A = ℕ} 0 1 = ap (λ (t : Bool). cond t 1 0) h in omega arith

pub and_left : (a b : Bool) → (a && b) ≡ true → a ≡ true
and_left true b e = refl
and_left false b e = e

pub and_right : (a b : Bool) → (a && b) ≡ true → b ≡ true
and_right true b e = e
and_right false b e = absurd (false_not_true e)

pub and_both : (a b : Bool) → a ≡ true → b ≡ true → (a && b) ≡ true
and_both true b e f = f
and_both false b e f = e

pub or_left : (a b : Bool) → (a || b) ≡ false → a ≡ false
or_left false b e = refl
or_left true b e = e

pub or_right : (a b : Bool) → (a || b) ≡ false → b ≡ false
or_right false b e = e
or_right true b e = absurd (false_not_true (sym e))
