-- Tables of numbers. In order: a rule that holds at every index below n, from one test that the checker computes; the last arm of a `match`
-- over an index. Assumes nothing.
-- A crate defines its test f, shows `tested : T (every f n)` by `tt`, and reads the rule at i by `at-index f n tested i`.
use mathlib.Core.Path.{◌≡◌, sym, subst}
use mathlib.Core.Bool.{Bool, true, false}
use mathlib.Core.Logic.{◌⊎◌, inl, inr}
use Prim.Native.Nat.{ℕ, zero, suc, ◌≤◌, ◌<◌}
use native.Mathlib.Nat.{not-suc-le-zero, eq-or-lt_of_le, le_of_suc-le-suc, le_antisymm}
use native.Mathlib.Omega.{arith}
use lib.Dec.{T}

-- `◌&&◌` with the first test as the one to match on, so that a failed test ends the computation
abbrev pub both : Bool → Bool → Bool
both true b = b
both false b = false

pub both_left : (a b : Bool) → T (both a b) → T a
both_left true b t = tt
both_left false b t = t

pub both_right : (a b : Bool) → T (both a b) → T b
both_right true b t = t
both_right false b t = absurd t

unfoldable pub every : (ℕ → Bool) → ℕ → Bool
every f zero = true
every f (suc n) = both (f n) (every f n)

pub at_index : (f : ℕ → Bool) (n : ℕ) → T (every f n) → (i : ℕ) → i < n → T (f i)
unfolding every
at_index f zero t i h = absurd (not-suc-le-zero h)
at_index f (suc n) t i h = go (λ l. at_index f n (both_right (f n) (every f n) t) i l) (eq-or-lt_of_le (le_of_suc-le-suc h))
  where
    go : (i < n → T (f i)) → (i ≡ n) ⊎ (i < n) → T (f i)
    go k (inl e) = subst (λ (m : ℕ). T (f m)) (sym e) (both_left (f n) (every f n) t)
    go k (inr l) = k l

-- i is none of the numbers below k: what is known in the last arm of a `match i` whose other arms are 0 to k - 1
abbrev pub NoneBelow : ℕ → ℕ → Type 0
NoneBelow i zero = Unit
NoneBelow i (suc k) = NoneBelow i k × (i ≡ k → ⊥)

pub none_below : (i k : ℕ) → NoneBelow i k → k ≤ i
none_below i zero h = omega arith
none_below i (suc k) h = omega (arith, none_below i k h.0, h.1)

-- so that it is k, if it is below k + 1
pub last_arm : (i k : ℕ) → i < suc k → NoneBelow i k → i ≡ k
last_arm i k l h = le_antisymm (le_of_suc-le-suc l) (none_below i k h)
