-- `all_above_zero` meets its contract: its fold takes the turns of the definition. Assumes nothing.
use Rattle.std.proofs.Common.{rules, Bool, true, ◌&&◌, ◌∙◌}
use Rattle.std.proofs.lemmas.Iterator.{YieldsList-from_slice}
use Rattle.std.proofs.lemmas.Iterator.Consumers.{fold_from_yields_List}
use lib.Ieee.{Float}
use Rattle.double.specs.Operators.{◌≺◌}
use Rattle.double.specs.Numbers.{#0}
use Rattle.genpowcone.specs.loops.Folds.{all_above_zero}
use Rattle.genpowcone.proofs.loops.Turns.{fold_turns}
use Rattle.genpowcone.proofs.loops.folds.all_above_zero.Goals as goal

abbrev turn : Bool → Float → Bool
turn b x = b && (#0 ≺ x)

pub returns : goal.returns
unfolding all_above_zero
returns c =
    fold_from_yields_List _ turn true _ c.fold.ensures.ran (YieldsList-from_slice c.args.xs.now cc) (λ a x b q k. search rules)
    ∙ fold_turns turn true c.args.xs.now
