-- `higher_correction` is its definition: zeros where Cholesky fails, else stage by stage what the calls promise. Assumes nothing.
use mathlib.Core.Path.{◌∙◌}
use Rattle.expcone.proofs.CorrectionStages.{from_dots, from-dots, solved, failed}
use Rattle.expcone.proofs.higher_correction.Goals as goal

pub returns-in_default : goal.returns-in_default
returns-in_default c = failed _ _ _ _ _ c.cholesky_3x3_explicit_factor.ensures c.in_default.is

pub returns : goal.returns
unfolding from_dots
returns c =
    let a = c.args in
    from-dots a.z a.v _ _ _ _ c.log-gpsi0.ensures c.dot3-dotpsiu.ensures c.dot3-dotpsiv.ensures
    ∙ solved a.h a.z a.ds a.v _ _ _ c.cholesky_3x3_explicit_factor.ensures c.in-Some.is c.cholesky_3x3_explicit_solve-u.ensures
