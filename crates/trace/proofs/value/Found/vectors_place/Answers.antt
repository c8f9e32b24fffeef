-- `vectors_place` meets its contract: at most two settings stand behind the flag. Assumes nothing.
use native.Mathlib.Omega.{arith}
use Rattle.trace_layout.proofs.Records.{settings-most}
use Rattle.trace.proofs.value.Found.vectors_place.Goals as goal

pub overflow_mul-result : goal.overflow_mul-result
overflow_mul-result c = omega (arith, c.settings_in.ensures, settings-most c.args.self.shape.flag)

pub overflow_add-result-2 : goal.overflow_add-result-2
overflow_add-result-2 c = omega (arith, c.settings_in.ensures, settings-most c.args.self.shape.flag, c.flag_place.ensures.2)

pub returns : goal.returns
returns c = (
  omega (arith, c.settings_in.ensures, c.flag_place.ensures.0),
  omega (arith, c.settings_in.ensures, settings-most c.args.self.shape.flag, c.flag_place.ensures.2),
)
