-- `measure` meets its contract: the definition's text, with the products that it calls for. Assumes nothing.
use Rattle.scaling.specs.Scalings.{measure_of}
use Rattle.scaling.proofs.measure.Goals as goal

pub returns : goal.returns
unfolding measure_of
returns c =
    rw (
      c.quad_form.ensures,
      c.dot3-dotdsz.ensures,
      c.moved3-dz.ensures,
      c.moved3-ds.ensures,
      c.dot3-mutilde.ensures,
      c.dot3-dotsz.ensures,
    )
