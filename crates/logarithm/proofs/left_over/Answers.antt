-- `left_over` meets its contract: q·n is so near to d·2^60 + n that a lower half of their difference below 2·n is the difference. Assumes
-- nothing.
use Rattle.std.proofs.Common.{◌≡◌, ℕ, ◌+◌, ◌*◌, ◌%◌, ◌^◌, ◌<◌, ◌≤◌, sym, ap, ◌∙◌, arith}
use native.Mathlib.Nat.{add-mod-mod}
use Rattle.logarithm.proofs.left_over.Goals as goal

-- r is what x has over p but for multiples of 2^64, and x and p are less than that apart
told : (x p r : ℕ) → (r + p) % 2 ^ 64 ≡ x % 2 ^ 64 → r < 2 ^ 55 → p ≤ x + 2 ^ 57 → x ≤ p + 2 ^ 57 → p + r ≡ x
told x p r e h a b = omega arith

checked :
    (d n q l r : ℕ) → n < 2 ^ 54 → l ≡ q * n % 2 ^ 64 → (r + l) % 2 ^ 64 ≡ d % 16 * 2 ^ 60 + n → q * n ≤ d * 2 ^ 60 + 2 ^ 56
    → d * 2 ^ 60 ≤ q * n + 2 ^ 56 → r < 2 * n → q * n + r ≡ d * 2 ^ 60 + n
checked d n q l r small el er a b below =
    told (d * 2 ^ 60 + n) (q * n) r
    (sym (add-mod-mod r (q * n) (2 ^ 64)) ∙ ap (λ (y : ℕ). (r + y) % 2 ^ 64) (sym el) ∙ er ∙ lower d n small)
    (omega arith) (omega arith) (omega arith)
  where
    lower : (d n : ℕ) → n < 2 ^ 54 → d % 16 * 2 ^ 60 + n ≡ (d * 2 ^ 60 + n) % 2 ^ 64
    lower d n h = omega arith

pub returns : goal.returns
returns c =
    checked c.args.d c.args.n c.args.q c.low.result _
    c.requires.0 c.low.ensures c.wrapping_sub_u64.ensures.value c.requires.1
    c.requires.2
