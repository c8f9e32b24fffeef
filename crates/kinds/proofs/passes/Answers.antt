-- `passes` says yes where `answer` does, and nowhere else. Assumes nothing.
use mathlib.Core.Path.{ap, ◌∙◌}
use Rattle.cone.specs.verdict.Answers.{is_yes}
use Rattle.kinds.specs.Passes.{passes_in}
use Rattle.kinds.proofs.passes.Goals as goal

pub returns : goal.returns
unfolding passes_in
returns c = c.is_yes.ensures ∙ ap is_yes c.answer.ensures
