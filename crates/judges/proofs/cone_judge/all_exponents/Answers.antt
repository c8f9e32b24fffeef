-- `all_exponents` meets its contract: its fold asks every place. Assumes nothing.
use Rattle.std.proofs.Common.{rules, ◌∙◌}
use Rattle.std.proofs.lemmas.Iterator.{YieldsList-from_slice}
use Rattle.std.proofs.lemmas.Iterator.Consumers.{fold_from_yields_List}
use mathlib.Core.Bool.{Bool, true, ◌&&◌}
use lib.Ieee.{Float}
use Rattle.judges.specs.cone_judge.Cones.{exponent_ok}
use Rattle.judges.proofs.cone_judge.Folds.{all_folded}
use Rattle.judges.proofs.cone_judge.all_exponents.Goals as goal

pub returns : goal.returns
returns c =
    let xs = c.args.xs.now in
    fold_from_yields_List _ (λ (all : Bool) (x : Float). all && exponent_ok x) true _ c.fold.ensures.ran (YieldsList-from_slice xs cc)
    (λ a x b q k. search rules)
    ∙ all_folded exponent_ok xs
