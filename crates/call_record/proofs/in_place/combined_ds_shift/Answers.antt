-- The entry is `three`'s of its name, which refuses kind 3 as the definition does. Assumes nothing.
use mathlib.Core.Path.{◌∙◌}
use Rattle.call_record.proofs.in_place.ByKind.{combined-ds-shift-3D}
use borrow.Author.Rules.{rules}
use Rattle.call_record.proofs.in_place.combined_ds_shift.Goals as goal

pub returns : goal.returns
returns c = c.combined_ds_shift.ensures ∙ combined-ds-shift-3D _ _ _ _ _ _
