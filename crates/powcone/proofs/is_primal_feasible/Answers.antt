-- `is_primal_feasible` asks the signs, and then tells by residue and margin. Assumes nothing.
use Rattle.powcone.specs.Feasible.{signs, primal_margin, primal_feasible}
use Rattle.powcone.proofs.is_primal_feasible.Goals as goal
use Rattle.powcone.proofs.is_primal_feasible.Goals.{else-s-via-then-s+else-s-2, else-s-via-else-s}

pub returns-then-s-2 : goal.returns-then-s-2
unfolding primal_feasible signs primal_margin
returns-then-s-2 c =
    simp (c.if-s.true, c.if-s-2.true, ← c.primal_residue.ensures, c.answer.ensures)

pub returns : goal.returns
unfolding primal_feasible signs
returns c =
    elim c.else-s.branch [
      | else-s-via-then-s+else-s-2 w ↦ simp (w.if-s.true, w.if-s-2.false)
      | else-s-via-else-s w ↦ simp w.if-s.false
    ]
