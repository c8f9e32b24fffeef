-- Numbers of two 64-bit halves: a product, and what one has over another. Definitions only.
use Rattle.std.specs.Prelude.{ℕ, ◌+◌, ◌-◌, ◌*◌, ◌/◌, ◌%◌, ◌^◌, min, cond, nat_le}
use Rattle.wide.specs.declared.Halves.{Halves}

-- the number that two halves make
unfoldable pub whole_of : Halves → ℕ
whole_of h = h.hi * 2 ^ 64 + h.lo

-- the halves that make a * b, with lo below 2^64: proofs/Products
unfoldable pub product_of : ℕ → ℕ → Halves
product_of a b = record { hi = a * b / 2 ^ 64; lo = a * b % 2 ^ 64 }

-- a - b, or the largest u64 where that is as much or more, or where b is above a
unfoldable pub left_of : ℕ → ℕ → ℕ
left_of a b = cond (nat_le b a) (min (a - b) (2 ^ 64 - 1)) (2 ^ 64 - 1)
