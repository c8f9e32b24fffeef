-- When a record replays the same, and that a search which was recorded as it was made does. Statements; proofs/replay_kept/Replays has the
-- proofs.
use Rattle.std.specs.Prelude.{ℕ, ◌≡◌, true, false, cond, List, eqb, Float, take}
use Rattle.std.specs.Float.{binary64}
use Rattle.std.specs.Float.Ieee.{to_bits}
use Rattle.cone.specs.declared.Cone.{Cone}
use Rattle.cone.specs.declared.Settings.{Settings}
use Rattle.cone.specs.declared.Steps.{Steps}
use Rattle.judges.specs.Judges.{rule_ok}
use Rattle.octets.specs.words.Words.{AllBelow}
use Rattle.call_search.specs.single.Entries.{step_length_of}
use Rattle.trace_layout.specs.Records.{Record, Laid}
use Rattle.trace_layout.specs.Traces.{edition_at, records_of}
use Rattle.trace.specs.places.Given.{given_of}
use Rattle.trace.specs.entries.Writing.{append_of}
use Rattle.trace.specs.entries.Values.{Passed}
use Rattle.trace.specs.value.Defaults.{default_of}
use Rattle.trace.specs.value.Recorded.{recorded_of}
use Rattle.trace.specs.kept.Appended.{trace_in}
use Rattle.trace_replay.specs.rerun.Rerun.{rerun_of}
use Rattle.trace_replay.specs.call.Replay.{same_record, differing}

-- what a record holds comes of a search that was made: `step_length` was called with these arguments, with the edition's default settings
-- at flag 1, and answered these steps
pub record Searched (e : ℕ) (c : Cone) (flag : ℕ) (settings : Settings) (dz ds z s : List Float) (steps : Steps) : Type 0 where
  pub dual_point : List Float
  pub primal_point : List Float
  pub answer : (step_length_of c dz ds z s dual_point primal_point (cond (eqb flag 0) settings (default_of e settings.start))).answer ≡ steps
  pub done : steps.code ≡ 0

-- 02, Order 2: "compare steps and counts bit for bit". A search is done, and answers with the bits that the record holds
pub record GivesHeld (a : Steps) (r : Record) : Type 0 where
  pub done : a.code ≡ 0
  pub dual_step : to_bits binary64 a.dualstep ≡ r.dualstep
  pub dual-count : a.dualcount ≡ r.dualcount
  pub primal_step : to_bits binary64 a.primalstep ≡ r.primalstep
  pub primal_count : a.primalcount ≡ r.primalcount

pub record ReplaysSame : Type 0 where
  -- a record that can be laid out, as each one of a good trace is, counts as the same exactly if its search, run again, gives what it holds
  pub only : (e : ℕ) (r : Record) → Laid e r → same_record e r ≡ true → GivesHeld (rerun_of (recorded_of e 0 r)) r
  pub all : (e : ℕ) (r : Record) → Laid e r → GivesHeld (rerun_of (recorded_of e 0 r)) r → same_record e r ≡ true
  -- of one record, in a trace of any edition: whatever the cone holds in places that its kind does not use
  pub one : (e : ℕ) (c : Cone) (flag : ℕ) (settings : Settings) (dz ds z s : List Float) (steps : Steps)
      → Passed c flag settings dz ds z s steps
      → Searched e c flag settings dz ds z s steps
      → same_record e (given_of c flag settings dz ds z s steps) ≡ true
  -- so a done append of what was searched adds no record that differs
  pub appended : (bs : List ℕ) (used : ℕ) (c : Cone) (flag : ℕ) (settings : Settings) (dz ds z s : List Float) (steps : Steps)
      → AllBelow 256 bs
      → Passed c flag settings dz ds z s steps
      → Searched (edition_at (take used bs)) c flag settings dz ds z s steps
      → (append_of bs used c flag settings dz ds z s steps).answer.code ≡ 0
      → differing (edition_at (take used bs)) 0 (records_of (trace_in (append_of bs used c flag settings dz ds z s steps)))
      ≡ differing (edition_at (take used bs)) 0 (records_of (take used bs))

-- 02, Order 9: a rule that is none "in a trace .. is no layout fault", and its search is refused: the record differs, whatever answers it
-- holds
abbrev pub NoRuleDiffers : Type 0
NoRuleDiffers = (e : ℕ) (r : Record) → rule_ok r.rule ≡ false → same_record e r ≡ false
