-- `combined_ds_shift` meets its contract, by those of `higher_correction` and `shift3`. Assumes nothing.
use Rattle.expcone.specs.Correction.{combined_ds_shift_of}
use Rattle.expcone.proofs.combined_ds_shift.Goals as goal

pub returns : goal.returns
unfolding combined_ds_shift_of
returns c = rw (c.shift3.ensures, c.higher_correction-eta.ensures)
