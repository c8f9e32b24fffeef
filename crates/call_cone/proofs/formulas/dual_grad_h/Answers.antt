-- A call that its rows refuse leaves with their number, also after the formulas; any other with all that they made. Assumes nothing.
use mathlib.Core.Path.{◌∙◌, refl, sym, ap}
use Rattle.std.proofs.lemmas.Result.{IfOk-at_ok}
use Rattle.cone.specs.table.Table.{code_of}
use Rattle.cone.proofs.table.Settled.{number_above_0, refused_by, done_by, ok_code}
use Rattle.judges.proofs.Settled.{refused_record, done_record}
use Rattle.judges.specs.Refusals.{last_rows}
use Rattle.call_cone.proofs.formulas.Lengths.{read-call}
use Rattle.call_cone.specs.formulas.Entries.{grad_of, refuse_grad, dual_grad_h_of}
use Rattle.call_cone.proofs.formulas.dual_grad_h.Goals as goal

pub returns-in-Err : goal.returns-in-Err
unfolding dual_grad_h_of
returns-in-Err c = c.refused_gradient.ensures ∙ refused_by _ _ _ _ _ _ c.read_rows.ensures c.in-Err.is refl

pub dual_grad_h-made-requires : goal.dual_grad_h-made-requires
dual_grad_h-made-requires c = read-call _ _ (ok_code _ _ _ c.read_rows.ensures c.in_default.is)

pub returns-in-Ok : goal.returns-in-Ok
unfolding dual_grad_h_of
returns-in-Ok c =
    done_record grad_of refuse_grad _ _ _ (c.last_rows.ensures.0 ∙ ap last_rows c.dual_grad_h-made.ensures)
    (sym c.dual_grad_h-made.ensures ∙ IfOk-at_ok _ c.in-Ok.is c.last_rows.ensures.1) (ap code_of c.in-Ok.is)
    ∙ done_by _ _ _ _ _ c.read_rows.ensures c.in_default.is

pub returns-in-Err-last_rows : goal.returns-in-Err-last_rows
unfolding dual_grad_h_of
returns-in-Err-last_rows c =
    c.refused_gradient-in-Err-last_rows.ensures
    ∙ refused_record grad_of refuse_grad _ _ (sym (ap code_of c.in-Err-last_rows.is) ∙ c.last_rows.ensures.0 ∙ ap last_rows c.dual_grad_h-made.ensures)
    (number_above_0 _)
    ∙ done_by _ _ _ _ _ c.read_rows.ensures c.in_default.is
