-- `combined_ds_shift` asks the cone of the kind. Assumes nothing.
use borrow.Author.Tests.{eq-eqb, ne_eqb}
use Rattle.kinds.specs.Three.{combined_ds_shift_of}
use Rattle.kinds.proofs.three.combined_ds_shift.Goals as goal

pub returns-then-kind-eq2 : goal.returns-then-kind-eq2
unfolding combined_ds_shift_of
returns-then-kind-eq2 c = simp (eq-eqb _ _ c.if-kind-eq2.true) c.combined_ds_shift.ensures

pub returns : goal.returns
unfolding combined_ds_shift_of
returns c = simp (ne_eqb _ _ c.if-kind-eq2.false) c.combined_ds_shift-2.ensures
