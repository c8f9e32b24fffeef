-- `gradient_primal` is its definition, whether |s3| is above ε or not. Assumes nothing.
use Rattle.powcone.specs.PrimalGradient.{gradient_primal_of}
use Rattle.powcone.proofs.gradient_primal.Goals as goal

pub returns-then-abs_s : goal.returns-then-abs_s
unfolding gradient_primal_of
returns-then-abs_s c =
    simp (
      c.signed-g2.ensures,
      c.newton_raphson_powcone-found.ensures,
      c.powf.ensures,
      c.powf-2.ensures,
      ← c.abs-abs_s.ensures,
      c.if-abs_s.true,
    )

pub returns-else-abs_s : goal.returns-else-abs_s
unfolding gradient_primal_of
returns-else-abs_s c = simp (← c.abs-abs_s.ensures, c.if-abs_s.false)
