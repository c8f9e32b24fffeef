-- The entry is `three`'s of its name, which refuses kind 3 as the definition does. Assumes nothing.
use mathlib.Core.Path.{◌∙◌}
use Rattle.call_record.proofs.in_place.ByKind.{higher-correction-3D}
use borrow.Author.Rules.{rules}
use Rattle.call_record.proofs.in_place.higher_correction.Goals as goal

pub returns : goal.returns
returns c = c.higher_correction.ensures ∙ higher-correction-3D _ _ _ _ _
