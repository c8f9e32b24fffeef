-- `is_dual_feasible` asks the signs, and then tells by residue and margin. Assumes nothing.
use Rattle.powcone.specs.Feasible.{signs, dual_margin, dual_feasible}
use Rattle.powcone.proofs.is_dual_feasible.Goals as goal
use Rattle.powcone.proofs.is_dual_feasible.Goals.{else-z-via-then-z+else-z-2, else-z-via-else-z}

pub returns-then-z-2 : goal.returns-then-z-2
unfolding dual_feasible signs dual_margin
returns-then-z-2 c =
    simp (c.if-z.true, c.if-z-2.true, ← c.dual_residue.ensures, c.answer.ensures)

pub returns : goal.returns
unfolding dual_feasible signs
returns c =
    elim c.else-z.branch [
      | else-z-via-then-z+else-z-2 w ↦ simp (w.if-z.true, w.if-z-2.false)
      | else-z-via-else-z w ↦ simp w.if-z.false
    ]
