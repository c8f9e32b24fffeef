-- `place_after` meets its contract: the record lies in the trace, so that its end does not wrap. Assumes nothing.
use mathlib.Core.Path.{sym, ◌∙◌}
use native.Mathlib.Omega.{arith}
use Rattle.trace.proofs.reader.Places.{found_inside, behind_record, behind_none}
use Rattle.trace.proofs.reader.place_after.Goals as goal

pub returns-in_default : goal.returns-in_default
returns-in_default c = behind_none _ _ _ (sym c.found_from.ensures ∙ c.in_default.is)

pub overflow_add-result : goal.overflow_add-result
overflow_add-result c =
    let a = c.args in
    omega (
      arith,
      found_inside a.bytes.now a.at a.edition c.in-Some.shape (sym c.found_from.ensures ∙ c.in-Some.is),
      c.well_formed.0,
    )

pub returns : goal.returns
returns c = behind_record _ _ _ _ (sym c.found_from.ensures ∙ c.in-Some.is)
