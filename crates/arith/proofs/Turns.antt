-- The laws of iter: no turn, one turn more, the last turn; and the array that a loop writes place by place. Assumes nothing.
use Prim.Native.Nat.{ℕ, zero, suc, ◌+◌, ◌≤◌}
use mathlib.Core.Path.{◌≡◌, refl, ◌∙◌, ap}
use mathlib.Core.List.{List}
use native.Mathlib.Omega.{arith}
use native.Mathlib.Numerals.{add-one}
use lib.ListN.{get_or, set, length, length-set}
use lib.Seq.{get_or-set_other}
use Rattle.arith.specs.Turns.{iter}

pub iter-none : {A : Type 0} (f : ℕ → A → A) (a : A) → a ≡ iter f a 0
unfolding iter
iter-none f a = refl

pub iter-next : {A : Type 0} (f : ℕ → A → A) (a : A) (n : ℕ) {x : A} → x ≡ iter f a n → f n x ≡ iter f a (n + 1)
unfolding iter
iter-next f a n e = rw (add-one, e)

-- a loop over i from 0 that stops at n has made n turns
pub iter_end : {A : Type 0} (f : ℕ → A → A) (a : A) (n i : ℕ) {x : A} → x ≡ iter f a i → i ≤ n → n ≤ i → x ≡ iter f a n
iter_end f a n i e h k = e ∙ ap (iter f a) (omega arith)

-- ---- an array written place by place

-- turn i writes f i at the place n + i
abbrev pub puts : {A : Type 0} → (ℕ → A) → ℕ → ℕ → List A → List A
puts f n i g = set g (n + i) (f i)

pub puts-length : {A : Type 0} (f : ℕ → A) (n : ℕ) (g : List A) (m : ℕ) → length (iter (puts f n) g m) ≡ length g
unfolding iter
puts-length f n g zero = refl
puts-length f n g (suc m) = length-set (iter (puts f n) g m) (n + m) (f m) ∙ puts-length f n g m

-- the places behind the last turn's hold what they held
pub puts-above : {A : Type 0} (f : ℕ → A) (n : ℕ) (g : List A) (z : A) (m k : ℕ) → n + m ≤ k → get_or (iter (puts f n) g m) k z ≡ get_or g k z
unfolding iter
puts-above f n g z zero k h = refl
puts-above f n g z (suc m) k h =
    get_or-set_other (iter (puts f n) g m) (n + m) k (f m) z (λ e. omega arith) ∙ puts-above f n g z m k (omega arith)
