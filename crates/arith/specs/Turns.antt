-- Taking turns: how a loop that counts from 0 changes what it holds. Definitions only.
use Rattle.std.specs.Prelude.{ℕ, zero, suc}

-- a, changed by turn 0, then by turn 1, up to turn n - 1. Sums, products and arrays filled place by place are all of this form.
unfoldable pub iter : {A : Type 0} → (ℕ → A → A) → A → ℕ → A
iter f a zero = a
iter f a (suc n) = f n (iter f a n)
