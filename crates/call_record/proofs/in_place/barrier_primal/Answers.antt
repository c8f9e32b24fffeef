-- By kind, the entry is `wide_primal`'s or `three`'s of its name. Assumes nothing.
use mathlib.Core.Path.{◌∙◌}
use Rattle.cone.proofs.AskedKind.{wide_kind, other_kind}
use Rattle.call_record.proofs.in_place.ByKind.{barrier_primal_3d, barrier-primal-wide}
use borrow.Author.Rules.{rules}
use Rattle.call_record.proofs.in_place.barrier_primal.Goals as goal

pub returns-then-is_wide : goal.returns-then-is_wide
returns-then-is_wide c = c.barrier_primal.ensures ∙ barrier-primal-wide _ (wide_kind c.is_wide.ensures c.if-is_wide.true) _

pub returns : goal.returns
returns c =
    c.barrier_primal-2.ensures ∙ barrier_primal_3d _ (other_kind c.is_wide.ensures c.if-is_wide.false) _
