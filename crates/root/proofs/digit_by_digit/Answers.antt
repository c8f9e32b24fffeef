-- `digit_by_digit` meets its contract. The loop's invariant is `Turn`: what the digits passed and the rest hold is the number times 4^i.
-- Assumes nothing.
use Prim.Native.Nat.{ℕ, ◌+◌, ◌*◌, ◌^◌, ◌<◌}
use mathlib.Core.Path.{◌≡◌, sym, ap, subst, ◌∙◌}
use mathlib.Core.Bool.{Bool, cond}
use native.Mathlib.Omega.{arith}
use borrow.Author.Tests.{lt-ltb, le-ltb}
use lib.Dec.{ltb}
use Rattle.root.specs.Steps.{near_root}
use Rattle.root.proofs.DigitSteps.{Turn, root_lt, start, set, clear, ended}
use Rattle.root.proofs.digit_by_digit.Goals as goal
use Rattle.root.proofs.digit_by_digit.Goals.{After-loop, At-loop, then-trial-have, else-trial-have}

short : (h : At-loop) → h.loop.root < 2 ^ 53
short h = root_lt h.loop.invariant

pub loop-init : goal.loop-init
loop-init c = start c.args.m c.requires

pub overflow_mul-have : goal.overflow_mul-have
overflow_mul-have c = omega (arith, short c.before, c.loop.invariant.small)

pub overflow_add-have : goal.overflow_add-have
overflow_add-have c = omega (arith, short c.before, c.loop.invariant.small, c.loop.invariant.left)

pub overflow_mul-trial : goal.overflow_mul-trial
overflow_mul-trial c = omega (arith, short c.before)

pub overflow_add-trial : goal.overflow_add-trial
overflow_add-trial c = omega (arith, short c.before)

pub overflow_mul-root : goal.overflow_mul-root
overflow_mul-root c = omega (arith, short c.before.before)

pub overflow_add-root : goal.overflow_add-root
overflow_add-root c = omega (arith, short c.before.before)

pub overflow_mul-root-else-trial-have : goal.overflow_mul-root-else-trial-have
overflow_mul-root-else-trial-have c = omega (arith, short c.before.before)

pub loop-preserved : goal.loop-preserved
loop-preserved c =
    let t = c.loop.invariant in
    let more : c.loop.counter < 53 = omega arith in
    elim c.if-trial-have.branch [
      | then-trial-have w ↦ rw (w.root-is, w.rem-is) (set t more w.if-trial-have.true)
      | else-trial-have w ↦ rw (w.root-is, w.rem-is) (clear t more w.if-trial-have.false)
    ]

pub overflow_add-result : goal.overflow_add-result
overflow_add-result c = omega (arith, short c.before.before)

is :
    (c : After-loop)
    → near_root (c.args.m * 2 ^ 52)
    ≡ cond (ltb c.loop.root c.loop.rem) (c.loop.root + 1) c.loop.root
is c =
    let l = c.loop in
    let m = c.args.m in
    let e : l.counter ≡ 53 = omega (arith, l.invariant.count) in
    ended m l.root l.rem l.rest c.requires
    (subst (λ (k : ℕ). Turn (m * 1024) k l.root l.rem l.rest) e l.invariant)

pub returns-then-root-rem : goal.returns-then-root-rem
returns-then-root-rem c =
    let l = c.loop in
    sym (is c.before ∙ ap (λ (t : Bool). cond t (l.root + 1) l.root) (lt-ltb l.root l.rem (omega arith)))

pub returns-else-root-rem : goal.returns-else-root-rem
returns-else-root-rem c =
    let l = c.loop in
    sym (is c.before ∙ ap (λ (t : Bool). cond t (l.root + 1) l.root) (le-ltb l.root l.rem (omega arith)))
