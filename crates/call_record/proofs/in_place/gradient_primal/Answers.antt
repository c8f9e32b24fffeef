-- By kind, the entry is `wide_primal`'s or `three`'s of its name. Assumes nothing.
use mathlib.Core.Path.{◌∙◌}
use Rattle.cone.proofs.AskedKind.{wide_kind, other_kind}
use Rattle.call_record.proofs.in_place.ByKind.{gradient-primal-3D, gradient-primal-wide}
use borrow.Author.Rules.{rules}
use Rattle.call_record.proofs.in_place.gradient_primal.Goals as goal

pub returns-then-is_wide : goal.returns-then-is_wide
returns-then-is_wide c =
    c.gradient_primal.ensures ∙ gradient-primal-wide _ (wide_kind c.is_wide.ensures c.if-is_wide.true) _ _

pub returns : goal.returns
returns c =
    c.gradient_primal-2.ensures ∙ gradient-primal-3D _ (other_kind c.is_wide.ensures c.if-is_wide.false) _ _
