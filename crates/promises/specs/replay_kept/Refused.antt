-- 02, Order 2: "Records whose cone, numbers or settings are refused count as differing", whatever answers they hold. The statement;
-- proofs/replay_kept/Refused has the proof.
use Rattle.std.specs.Prelude.{ℕ, ◌≡◌, false, ◌&&◌}
use Rattle.judges.specs.Judges.{cone_ok, sides_finite, settings_finite, settings_ok}
use Rattle.trace_layout.specs.Records.{Record, Laid}
use Rattle.trace.specs.value.Recorded.{values_of, cone_of, settings_of}
use Rattle.trace_replay.specs.call.Replay.{same_record}

-- of a record that can be laid out, as each one of a good trace is, in a trace of the edition e
pub record Differs (e : ℕ) (r : Record) : Type 0 where
  -- number 1 refuses the cone
  pub cone-refused : cone_ok (cone_of r) ≡ false → same_record e r ≡ false
  -- number 3 refuses one of its vectors
  pub numbers-refused :
      sides_finite (values_of r.dz) (values_of r.ds) (values_of r.z) (values_of r.s) ≡ false → same_record e r ≡ false
  -- number 3 or 4 refuses the settings: its own at flag 0, its start and the edition's at flag 1
  pub settings-refused : (settings_finite (settings_of e r) && settings_ok (settings_of e r)) ≡ false → same_record e r ≡ false

abbrev pub RefusedDiffers : Type 0
RefusedDiffers = (e : ℕ) (r : Record) → Laid e r → Differs e r
