-- `is_primal_feasible` asks the signs, and then tells by residue and margin. Assumes nothing.
use Rattle.genpowcone.specs.Feasible.{signs, primal_margin, primal_feasible}
use Rattle.genpowcone.proofs.is_primal_feasible.Goals as goal

pub returns-then-all_above_zero : goal.returns-then-all_above_zero
unfolding primal_feasible signs primal_margin
returns-then-all_above_zero c =
    let tested = c.before.before in
    simp (
      ← tested.head.ensures,
      ← tested.all_above_zero.ensures,
      tested.if-all_above_zero.true,
      ← c.primal_residue.ensures,
      c.answer.ensures,
    )

pub returns : goal.returns
unfolding primal_feasible signs
returns c = simp (← c.head.ensures, ← c.all_above_zero.ensures, c.if-all_above_zero.false)
