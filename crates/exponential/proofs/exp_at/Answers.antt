-- `exp_at` meets its contract: the place, the rest, the sum and the double, each by the definition's own step. Assumes nothing.
use Rattle.std.proofs.Common.{◌≡◌, ℕ, ◌+◌, ◌*◌, ◌/◌, ◌<◌, ◌≤◌, sym, ap, ◌∙◌, subst, arith}
use Rattle.exponential.specs.Steps.{place_of, rest, horner, composed, third_in64, exp_at, AtPlace}
use Rattle.exponential.proofs.Borders.{at_place, rest_small}
use Rattle.exponential.proofs.exp_at.Goals as goal
use Rattle.exponential.proofs.exp_at.Goals.{After-place-k, After-rest}

at-known : (c : After-place-k) → AtPlace c.args.p.whole c.place-k.result
at-known c =
    let y = c.args.p.whole in
    subst (λ (k : ℕ). AtPlace y k) (sym c.place-k.ensures) (at_place y c.requires.0)

rest-known : (c : After-rest) → c.rest.result ≤ third_in64 + 2048
rest-known c =
    let p = c.args.p in
    subst (λ (r : ℕ). r ≤ third_in64 + 2048) (sym c.rest.ensures)
    (rest_small p.whole p.part c.place-k.result (at-known c.before) c.requires.1)

pub rest-requires : goal.rest-requires
rest-requires c = (at-known c, c.requires.1)

pub composed-requires : goal.composed-requires
composed-requires c = ((at-known c.before).low, (at-known c.before).high, rest-known c)

-- the steps put together, with the place written as the definition has it
steps :
    (y part k r : ℕ) → part < 2048 → k ≡ place_of y → r ≡ rest (y * 2048 + part) k → composed k (horner r 39) ≡ exp_at (y * 2048 + part)
unfolding exp_at
steps y part k r l ek er =
    let w : ℕ = y * 2048 + part in
    let whole : y ≡ w / 2048 = omega arith in
    ap (λ (x : ℕ). composed k (horner x 39)) er ∙ ap (λ (x : ℕ). composed x (horner (rest w x) 39)) (ek ∙ ap place_of whole)

pub returns : goal.returns
returns c =
    let p = c.args.p in
    c.composed.ensures
    ∙ steps p.whole p.part _ _ c.requires.1 c.place-k.ensures c.rest.ensures
