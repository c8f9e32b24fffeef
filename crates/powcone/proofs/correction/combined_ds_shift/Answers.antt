-- `combined_ds_shift` is its definition: the shift by the correction that was computed. Assumes nothing.
use Rattle.powcone.specs.correction.Correction.{combined_ds_shift_of}
use Rattle.powcone.proofs.correction.combined_ds_shift.Goals as goal

pub returns : goal.returns
unfolding combined_ds_shift_of
returns c = rw (c.shift3.ensures, c.higher_correction-eta.ensures)
