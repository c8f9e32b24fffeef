-- `plan_ok` meets its contract. The loop's invariant: the plan is good exactly if what is behind is and the cones that are left are.
-- Assumes nothing.
use mathlib.Core.Path.{sym, ap, ◌∙◌}
use mathlib.Core.Bool.{Bool, ◌&&◌}
use mathlib.Core.List.{[]}
use Prim.Native.Nat.{◌+◌}
use native.Mathlib.Omega.{arith}
use lib.ListN.{drop}
use Rattle.judges.specs.Judges.{cone_ok}
use Rattle.cone.specs.words.Words.{cones_of}
use Rattle.search.specs.plan.Plans.{all_cones_ok}
use Rattle.search.proofs.plan.Plans.{unlisted, ok_begins, ok_next, ok_end}
use Rattle.search.proofs.plan.plan_ok.Goals as goal

pub returns-then-not-few : goal.returns-then-not-few
returns-then-not-few c = unlisted c.args.cones.now c.if-not-few.true

pub loop-w-init : goal.loop-w-init
loop-w-init c = ok_begins c.args.cones.now c.if-not-few.false

pub loop-w-preserved : goal.loop-w-preserved
loop-w-preserved c =
    let words = c.args.cones.now in
    let all = c.loop-w.all in
    let i = c.loop-w.w-index in
    let judged = c.cone_ok-all.ensures ∙ ap cone_ok c.cone_of.ensures in
    c.loop-w.invariant
    ∙ ok_next words i all [] (omega arith)
    ∙ ap (λ (t : Bool). all && t && all_cones_ok (drop (i + 1) (cones_of words))) (sym judged)

pub returns : goal.returns
returns c = sym (c.loop-w.invariant ∙ ok_end c.args.cones.now c.loop-w.w-index c.loop-w.all (omega arith))
