-- `default_settings` meets its contract: the edition's step beside the rest. Assumes nothing.
use Rattle.trace.proofs.value.default_settings.Goals as goal

pub returns : goal.returns
returns c = rw c.default_step-step.ensures
