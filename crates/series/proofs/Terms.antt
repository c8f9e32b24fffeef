-- S by weights: each denominator 2j+1 divides the common one, and S(p/q) is the odd sum of forty terms. Assumes nothing.
use mathlib.Core.Path.{◌≡◌, sym, ap, ap₂, ◌∙◌}
use mathlib.Core.Bool.{Bool}
use Prim.Native.Nat.{ℕ, zero, suc, ◌+◌, ◌*◌, ◌/◌, ◌^◌, ◌<◌}
use native.Mathlib.Nat.{mul-pos, one-le-pow, pow-zero, pow-suc, mul_assoc}
use native.Mathlib.Omega.{arith}
use lib.Dec.{T, eqb, eqb→eq, leb→le}
use Rattle.arith.proofs.Tables.{every, at_index}
use Rattle.series.specs.Series.{odd_product, term, s_num, s_den}
use Rattle.series.proofs.OddPowers.{odds, odds_as_written}

-- 1 · 3 · .. · 79, and the weight of the term j
abbrev pub all_odds : ℕ
all_odds = odd_product 40

unfoldable pub weight : ℕ → ℕ
weight j = all_odds / (2 * j + 1)

divides : ℕ → Bool
divides j = eqb (suc (j + j) * weight j) all_odds

all_divide : T (every divides 40)
unfolding every divides weight odd_product
all_divide = tt

pub weights : (j : ℕ) → j < 40 → suc (j + j) * weight j ≡ all_odds
unfolding divides
weights j h = eqb→eq _ _ (at_index divides 40 all_divide j h)

pub all_odds-pos : zero < all_odds
unfolding odd_product
all_odds-pos = leb→le 1 all_odds tt

pub s_num_by_weights : (p q : ℕ) → s_num p q ≡ 2 * odds weight 40 p q
unfolding s_num term weight
s_num_by_weights p q =
    ap (λ (x : ℕ). 2 * x)
    (odds_as_written weight p q 0 40 (term p q) (λ j i l e. ap₂ (λ (x y : ℕ). weight j * p ^ x * q ^ y) (omega arith) (omega arith))
    ∙ omega (arith, ap (λ (x : ℕ). odds weight 40 p q * x) (pow-zero q)))

pub s_den_by_weights : (q : ℕ) → s_den q * q ≡ all_odds * q ^ 80
unfolding s_den
s_den_by_weights q = mul_assoc all_odds (q ^ 79) q ∙ ap (λ (x : ℕ). all_odds * x) (sym (pow-suc q 79))

pub s_den-pos : (q : ℕ) → zero < q → zero < s_den q
unfolding s_den
s_den-pos q h = mul-pos all_odds-pos (one-le-pow 79 q h)
