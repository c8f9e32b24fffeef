-- `answer` asks the test of the kind, on the point's three places or on the slice as it is. Assumes nothing.
use Rattle.std.proofs.Common.{◌≡◌, arith}
use mathlib.Core.Path.{ap, ◌∙◌}
use mathlib.Core.List.{List}
use lib.Ieee.{Float}
use borrow.Author.Tests.{ne_eqb}
use Rattle.kinds.specs.Answers.{exp_answer, pow_answer, genpow_answer, answer_in}
use Rattle.kinds.proofs.answer.Goals as goal

pub returns-in-1 : goal.returns-in-1
unfolding answer_in
returns-in-1 c = simp c.in-1.is (c.exp_answer.ensures ∙ ap (exp_answer _) c.three_of.ensures)

pub returns-in-2 : goal.returns-in-2
unfolding answer_in
returns-in-2 c =
    simp c.in-2.is (c.pow_answer.ensures ∙ ap (pow_answer _ _) c.three_of-in-2.ensures)

pub returns-in-3 : goal.returns-in-3
unfolding answer_in
returns-in-3 c =
    let s = c.args in
    let in_use = ap (λ (α : List Float). genpow_answer α s.primal s.point.now) c.head.ensures in
    simp c.in-3.is (c.genpow_answer.ensures ∙ in_use)

pub returns-in_default : goal.returns-in_default
unfolding answer_in
returns-in_default c =
    let not_1 : c.args.cone.now.kind ≡ 1 → ⊥ = omega arith in
    let not_2 : c.args.cone.now.kind ≡ 2 → ⊥ = omega arith in
    let not_3 : c.args.cone.now.kind ≡ 3 → ⊥ = omega arith in
    simp (ne_eqb _ _ not_1, ne_eqb _ _ not_2, ne_eqb _ _ not_3)
