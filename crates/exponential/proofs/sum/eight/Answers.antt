-- `eight` meets its contract: the calls are the definition's own steps. Assumes nothing.
use Rattle.std.proofs.Common.{◌≡◌, ℕ, ◌+◌, ◌*◌, ◌/◌, ◌^◌, arith}
use Rattle.exponential.specs.Estimates.{four_of, eight_of}
use Rattle.exponential.proofs.NearSums.{eight_small}
use Rattle.exponential.proofs.sum.eight.Goals as goal
use Rattle.exponential.proofs.sum.eight.Goals.{After-high-2, Start}

abbrev start : After-high-2 → Start
start c = c.before.before.before.before.before

-- the square, the fourth power, both fours and the last product, put together
steps :
    (x square fourth a b q : ℕ) → square ≡ x * x / 2 ^ 64 → a ≡ four_of x 0 → fourth ≡ square * square / 2 ^ 64 → b ≡ four_of x 4
    → q ≡ fourth * b / 2 ^ 64 → a + q ≡ eight_of x
unfolding eight_of
steps x square fourth a b q es ea ef eb eq = rw (eq, eb, ef, ea, es)

is_eight : (c : After-high-2) → c.four.result + c.high-2.result ≡ eight_of (start c).args.x
is_eight c =
    steps _ _ _ _ _ _ c.high-square.ensures c.four.ensures
    c.high.ensures
    c.four-2.ensures
    c.high-2.ensures

pub overflow_add-result : goal.overflow_add-result
overflow_add-result c = omega (arith, is_eight c, eight_small (start c).args.x (start c).requires)

pub returns : goal.returns
returns c = is_eight c
