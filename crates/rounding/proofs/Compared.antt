-- What the answer of `compare` says of its two numbers. Assumes nothing.
use mathlib.Core.Path.{◌≡◌}
use mathlib.Core.Bool.{not}
use Prim.Native.Nat.{ℕ, ◌≤◌, ◌<◌, compare, Ordering}
use native.Mathlib.Nat.{le_of_lt}
use lib.Dec.{T, is_le, compare_is_eq, leb→le, nleb→lt, eqb→eq}

-- loosely on both sides: no law on rounding needs more
abbrev pub Side : Ordering → ℕ → ℕ → Type 0
Side Ordering.lt a b = a ≤ b
Side Ordering.eq a b = a ≡ b
Side Ordering.gt a b = b ≤ a

pub side : (a b : ℕ) → Side (compare a b) a b
side a b = go (compare a b) (leb→le a b) (nleb→lt a b) (eqb→eq a b)
  where
    go : (o : Ordering) → (T (is_le o) → a ≤ b) → (T (not (is_le o)) → b < a) → (T (compare_is_eq o) → a ≡ b) → Side o a b
    go Ordering.lt h k e = h tt
    go Ordering.eq h k e = e tt
    go Ordering.gt h k e = le_of_lt (k tt)
