-- What a yes and a no of both power cones say, proved: `certain` has the cones' own formulas, with the margin's part as a parameter, and at
-- 2^-30 its answers are the cones'. Assumes nothing.
use mathlib.Core.Path.{◌≡◌, refl, ◌∙◌}
use mathlib.Core.List.{List}
use lib.Ieee.{Float}
use Rattle.double.specs.Operators.{at}
use Rattle.cone.specs.verdict.Margins.{#2⁻³⁰, power_margin}
use Rattle.powcone.specs.Feasible as power
use Rattle.genpowcone.specs.Feasible as wide
use Rattle.certain.specs.power.Primal as primal
use Rattle.certain.specs.power.Dual as dual
use Rattle.certain.proofs.power.Meaning as power_proved
use Rattle.certain.specs.wide.Tests as tests
use Rattle.certain.proofs.wide_kind.Meaning as wide_proved
use Rattle.promises.specs.yes_of_cones.Meaning.{Meaning}

primal_is : (α : Float) (s : List Float) → primal.answer #2⁻³⁰ α (at s 0) (at s 1) (at s 2) ≡ power.primal_feasible α s
unfolding power.primal_feasible power.signs power.primal_residue power.primal_margin power.residue_at power_margin
primal_is α s = refl

dual-is : (α : Float) (z : List Float) → dual.answer #2⁻³⁰ α (at z 0) (at z 1) (at z 2) ≡ power.dual_feasible α z
unfolding power.dual_feasible power.signs power.dual_residue power.dual_margin power.residue_at power_margin
dual-is α z = refl

signs_are : (s : List Float) → power.signs_at (at s 0) (at s 1) ≡ power.signs s
unfolding power.signs
signs_are s = refl

wide_is : (α s : List Float) → tests.primal_answer #2⁻³⁰ α s ≡ wide.primal_feasible α s
unfolding wide.primal_feasible wide.primal_residue wide.primal_margin wide.residue_at power_margin
wide_is α s = refl

wide_dual_is : (α z : List Float) → tests.dual_answer #2⁻³⁰ α z ≡ wide.dual_feasible α z
unfolding wide.dual_feasible wide.dual_residue wide.dual_margin wide.residue_at power_margin
wide_dual_is α z = refl

pub meaning : Meaning
meaning = record {
  power_yes = λ α s x p e. (power_proved.order_5).primal_yes α (at s 0) (at s 1) (at s 2) x p (primal_is α s ∙ e);
  power_no = λ α s x p t e. (power_proved.order_5).primal_no α (at s 0) (at s 1) (at s 2) x p (signs_are s ∙ t) (primal_is α s ∙ e);
  power_dual_yes = λ α z x p e. (power_proved.order_5).dual_yes α (at z 0) (at z 1) (at z 2) x p (dual-is α z ∙ e);
  power_dual_no = λ α z x p t e. (power_proved.order_5).dual_no α (at z 0) (at z 1) (at z 2) x p (signs_are z ∙ t) (dual-is α z ∙ e);
  wide_yes = λ α s x p e. (wide_proved.order_5).primal_yes α s x p (wide_is α s ∙ e);
  wide_no = λ α s x p t e. (wide_proved.order_5).primal_no α s x p t (wide_is α s ∙ e);
  wide_dual_yes = λ α z x p e. (wide_proved.order_5).dual_yes α z x p (wide_dual_is α z ∙ e);
  wide_dual_no = λ α z x p t e. (wide_proved.order_5).dual_no α z x p t (wide_dual_is α z ∙ e);
}
