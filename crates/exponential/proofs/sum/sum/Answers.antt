-- `sum` meets its contract. Invariant: v is the sum of the terms from i on. That no term overflows is the bound of the
-- whole sum. Assumes nothing.
use Rattle.std.proofs.Common.{◌≡◌, ℕ, suc, ◌+◌, ◌-◌, ◌*◌, ◌/◌, ◌^◌, ◌<◌, ◌≤◌, sym, ap, ◌∙◌, arith, lit<}
use Rattle.exponential.specs.Steps.{coefficient, horner}
use Rattle.exponential.proofs.Coefficients.{horner-starts}
use Rattle.exponential.proofs.Horner.{horner-most}
use Rattle.exponential.proofs.sum.sum.Goals as goal
use Rattle.exponential.proofs.sum.sum.Goals.{After-high}

next-term : (r i : ℕ) → 0 < i → i ≤ 21 → coefficient (i - 1) + r * horner r (39 - i) / 2 ^ 64 ≡ horner r (39 - (i - 1))
unfolding horner
next-term r i h l =
    let e : 39 - (i - 1) ≡ suc (39 - i) = omega arith in
    let f : 38 - (39 - i) ≡ i - 1 = omega arith in
    rw (e, horner, f)

pub loop-i-init : goal.loop-i-init
loop-i-init c = (omega arith, sym (horner-starts c.args.r 18 (lit< tt)))

new_v : (c : After-high)
    → c.coefficient.result + c.high.result
    ≡ horner c.args.r (39 - (c.loop-i.i - 1))
new_v c =
    let r = c.args.r in
    let i = c.loop-i.i in
    let e : c.loop-i.v ≡ horner r (39 - i) = c.loop-i.invariant.1 in
    ap (λ (x : ℕ). x + c.high.result) c.coefficient.ensures
    ∙ ap (λ (x : ℕ). coefficient (i - 1) + x) (c.high.ensures ∙ ap (λ (x : ℕ). r * x / 2 ^ 64) e)
    ∙ next-term r i (omega arith) (omega arith)

pub overflow_add-v : goal.overflow_add-v
overflow_add-v c =
    let r = c.args.r in
    let i = c.loop-i.i in
    omega (arith, new_v c, horner-most r (39 - (i - 1)) (omega arith) (omega arith))

pub loop-i-preserved : goal.loop-i-preserved
loop-i-preserved c = (omega arith, new_v c)

pub returns : goal.returns
returns c =
    let z : c.loop-i.i ≡ 0 = omega arith in
    c.loop-i.invariant.1 ∙ ap (λ (x : ℕ). horner c.args.r (39 - x)) z
