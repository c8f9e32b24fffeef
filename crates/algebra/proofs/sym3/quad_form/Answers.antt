-- `quad_form` meets its contract, by those of `mul` and `dot3`. Assumes nothing.
use Rattle.algebra.specs.Packed.{quad_form_of}
use Rattle.algebra.proofs.sym3.quad_form.Goals as goal

pub returns : goal.returns
unfolding quad_form_of
returns c = rw (c.dot3.ensures, c.mul-hx.ensures)
