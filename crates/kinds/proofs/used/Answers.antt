-- `used` branches as its definition does. Assumes nothing.
use borrow.Author.Tests.{eq-eqb, ne_eqb, lt-ltb, le-ltb}
use Rattle.kinds.specs.Answers.{used_of}
use Rattle.kinds.proofs.used.Goals as goal

pub returns-then-kind-eq2 : goal.returns-then-kind-eq2
unfolding used_of
returns-then-kind-eq2 c = simp (eq-eqb _ _ c.if-kind-eq2.true)

pub returns-then-dim1-lt32 : goal.returns-then-dim1-lt32
unfolding used_of
returns-then-dim1-lt32 c =
    let wide = c.before in
    simp (ne_eqb _ _ wide.if-kind-eq2.false, eq-eqb _ _ wide.if-kind-eq3.true, lt-ltb _ _ c.if-dim1-lt32.true)

pub returns-then-kind-eq3 : goal.returns-then-kind-eq3
unfolding used_of
returns-then-kind-eq3 c =
    let wide = c.before in
    simp (ne_eqb _ _ wide.if-kind-eq2.false, eq-eqb _ _ wide.if-kind-eq3.true, le-ltb _ _ c.if-dim1-lt32.false)

pub returns : goal.returns
unfolding used_of
returns c = simp (ne_eqb _ _ c.if-kind-eq2.false, ne_eqb _ _ c.if-kind-eq3.false)
