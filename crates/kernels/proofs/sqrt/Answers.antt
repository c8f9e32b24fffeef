-- `sqrt` is the plain root: the second one is it in every bit. Assumes nothing.
use mathlib.Core.Path.{ap, ◌∙◌}
use Rattle.root.specs.declared.table_root.Root.{Root}
use Rattle.root.proofs.table_root.SameRoot.{same_root}
use Rattle.kernels.proofs.sqrt.Goals as goal

pub returns : goal.returns
returns c = ap (λ (r : Root). r.root) c.sqrt.ensures ∙ same_root.same c.args.x
