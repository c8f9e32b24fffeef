-- By kind, the entry is `wide`'s or `blocks`'s of its name. Assumes nothing.
use mathlib.Core.Path.{◌∙◌}
use Rattle.cone.proofs.AskedKind.{wide_kind, other_kind}
use Rattle.call_record.proofs.in_place.ByKind.{mul-hs-3D, mul-hs-wide}
use borrow.Author.Rules.{rules}
use Rattle.call_record.proofs.in_place.mul_hs.Goals as goal

pub returns-then-is_wide : goal.returns-then-is_wide
returns-then-is_wide c =
    c.mul_hs.ensures ∙ mul-hs-wide _ (wide_kind c.is_wide.ensures c.if-is_wide.true) _ _ _

pub returns : goal.returns
returns c =
    c.mul_hs-2.ensures ∙ mul-hs-3D _ (other_kind c.is_wide.ensures c.if-is_wide.false) _ _ _
