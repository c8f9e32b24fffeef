-- `all_finite` meets its contract: its fold asks every place. Assumes nothing.
use Rattle.std.proofs.Common.{rules, ◌∙◌}
use Rattle.std.proofs.lemmas.Iterator.{YieldsList-from_slice}
use Rattle.std.proofs.lemmas.Iterator.Consumers.{fold_from_yields_List}
use mathlib.Core.Bool.{Bool, true, ◌&&◌}
use lib.Ieee.{Float}
use lib.Ieee.Scale.{finite}
use Rattle.judges.proofs.cone_judge.Folds.{all_folded}
use Rattle.judges.proofs.all_finite.Goals as goal

pub returns : goal.returns
returns c =
    let xs = c.args.xs.now in
    fold_from_yields_List _ (λ (all : Bool) (x : Float). all && finite x) true _ c.fold.ensures.ran (YieldsList-from_slice xs cc)
    (λ a x b q k. search rules)
    ∙ all_folded finite xs
