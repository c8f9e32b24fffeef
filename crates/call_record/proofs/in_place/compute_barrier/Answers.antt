-- By kind, the entry is `wide`'s or `three`'s of its name. Assumes nothing.
use mathlib.Core.Path.{◌∙◌}
use Rattle.cone.proofs.AskedKind.{wide_kind, other_kind}
use Rattle.call_record.proofs.in_place.ByKind.{compute-barrier-3D, compute-barrier-wide}
use borrow.Author.Rules.{rules}
use Rattle.call_record.proofs.in_place.compute_barrier.Goals as goal

pub returns-then-is_wide : goal.returns-then-is_wide
returns-then-is_wide c = c.compute_barrier.ensures ∙ compute-barrier-wide _ (wide_kind c.is_wide.ensures c.if-is_wide.true) _ _ _ _ _

pub returns : goal.returns
returns c =
    c.compute_barrier-2.ensures ∙ compute-barrier-3D _ (other_kind c.is_wide.ensures c.if-is_wide.false) _ _ _ _ _
