-- `entry_of` meets its contract: each call's answer is put in its field. Assumes nothing.
use Rattle.trace.specs.places.Given.{entry_of}
use Rattle.trace.proofs.places.entry_of.Goals as goal

pub returns : goal.returns
unfolding entry_of
returns c =
    rw (
      c.to_bits-primalstep.ensures,
      c.to_bits-dualstep.ensures,
      c.to_bits-smallest.ensures,
      c.to_bits-step.ensures,
      c.to_bits-start.ensures,
      c.dim-dim2.ensures,
      c.dim-dim1.ensures,
    )
