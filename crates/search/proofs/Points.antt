-- The length of a trial's point and its parts, and the loops that write a list into a lent slice from the front. Assumes nothing.
use mathlib.Core.Path.{◌≡◌, refl, ap, ◌∙◌}
use mathlib.Core.List.{List, [], ◌∷◌}
use Prim.Native.Nat.{ℕ, zero, suc, ◌+◌, ◌≤◌, ◌<◌}
use native.Mathlib.Omega.{arith}
use lib.ListN.{length, take, drop, set, get_or, length-set}
use lib.Ieee.{Float}
use Rattle.arith.proofs.Filling.{fill_more, fill_end}
use Rattle.double.specs.Operators.{◌⊕◌, ◌⊗◌}
use Rattle.algebra.specs.Vectors.{moved_of}
use Rattle.algebra.proofs.Moved.{moved_length}
use Rattle.search.specs.Points.{trial_point}

pub length-point : (q dq : List Float) (α : Float) → length dq ≡ length q → length (trial_point q dq α) ≡ length q
length-point q dq α h = omega (arith, moved_length q α dq)

-- the parts of a trial's point are the trial's points of the parts
pub take-point : (n : ℕ) (q dq : List Float) (α : Float) → take n (trial_point q dq α) ≡ trial_point (take n q) (take n dq) α
unfolding moved_of
take-point zero q dq α = refl
take-point (suc n) [] dq α = refl
take-point (suc n) (x ∷ q) [] α = refl
take-point (suc n) (x ∷ q) (d ∷ dq) α = ap (λ (l : List Float). x ⊕ α ⊗ d ∷ l) (take-point n q dq α)

pub drop-point : (n : ℕ) (q dq : List Float) (α : Float) → length dq ≡ length q
    → drop n (trial_point q dq α) ≡ trial_point (drop n q) (drop n dq) α
unfolding moved_of
drop-point zero q dq α h = refl
drop-point (suc n) [] dq α h = refl
drop-point (suc n) (x ∷ q) [] α h = absurd (omega arith)
drop-point (suc n) (x ∷ q) (d ∷ dq) α h = drop-point n q dq α (omega arith)

-- ---- a slice that held p₀ gets the list l: after i places it holds p
pub record Filled (l p₀ p : List Float) (i : ℕ) : Type 0 where
  pub long : length p ≡ length p₀
  pub upto : i ≤ length l
  pub same : take i p ≡ take i l

pub filled_none : (l p : List Float) (i : ℕ) → i ≡ 0 → Filled l p p i
filled_none l p i e = rw e (record { long = refl; upto = omega arith; same = refl })

pub filled_more : (l p₀ p : List Float) (i : ℕ) (a z : Float) → length p₀ ≡ length l → Filled l p₀ p i → i < length l → a ≡ get_or l i z
    → Filled l p₀ (set p i a) (i + 1)
filled_more l p₀ p i a z e f h g = record {
  long = simp length-set f.long;
  upto = omega arith;
  same = fill_more p l i a z (omega arith) h f.same g;
}

pub filled_all : (l p₀ p : List Float) (i : ℕ) → length p₀ ≡ length l → Filled l p₀ p i → length l ≤ i → p ≡ l
filled_all l p₀ p i e f h = fill_end p l i (omega arith) (omega arith) f.same

-- what is left of a list from place i on begins with the number there
pub left-next : (xs : List Float) (i : ℕ) (z : Float) {x : Float} {rest : List Float} → drop i xs ≡ x ∷ rest
    → (rest ≡ drop (i + 1) xs) × (i < length xs) × (x ≡ get_or xs i z)
left-next [] zero z e = absurd (grind arith)
left-next [] (suc i) z e = absurd (grind arith)
left-next (y ∷ ys) zero z e = (grind arith, omega arith, grind arith)
left-next (y ∷ ys) (suc i) z e =
    let more = left-next ys i z e in
    let k : suc (i + 1) ≡ suc i + 1 = omega arith in
    (more.0 ∙ ap (λ (n : ℕ). drop n (y ∷ ys)) k, omega (arith, more.1), more.2)
