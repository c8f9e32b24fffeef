-- `dual_grad_h` asks the cone of the kind and leaves the other kind's places +0. Assumes nothing.
use Rattle.judges.proofs.Lengths.{wide_fits}
use borrow.Author.Tests.{eq-eqb, ne_eqb}
use Rattle.kinds.specs.Cones.{dual_grad_h_of}
use borrow.Author.Rules.{rules}
use Rattle.kinds.proofs.dual_grad_h.Goals as goal

pub update_dual_grad_h-requires : goal.update_dual_grad_h-requires
update_dual_grad_h-requires c =
    wide_fits _ _ c.requires c.if-kind-eq3.true (search rules) c.head.ensures

pub returns-in_err-wide : goal.returns-in_err-wide
unfolding dual_grad_h_of
returns-in_err-wide c =
    rw (eq-eqb _ _ c.if-kind-eq3.true, ← c.head.ensures, ← c.update_dual_grad_h.ensures, c.in_err-wide.was) c.from_residual.ensures

pub returns-then-kind-eq3 : goal.returns-then-kind-eq3
unfolding dual_grad_h_of
returns-then-kind-eq3 c =
    rw (
      eq-eqb _ _ c.if-kind-eq3.true,
      c.attempted.ensures,
      c.no_three.ensures,
      ← c.head.ensures,
      ← c.update_dual_grad_h.ensures,
      c.in_ok-wide.was,
    )

pub returns : goal.returns
unfolding dual_grad_h_of
returns c =
    simp (
      ne_eqb _ _ c.if-kind-eq3.false,
      c.attempted-2.ensures,
      c.no_wide.ensures,
      c.update_dual_grad_h-three.ensures,
      c.three_of.ensures,
    )
