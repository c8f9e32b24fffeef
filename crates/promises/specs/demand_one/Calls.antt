-- Every call of the library that can refuse, as one type, and what it answers and leaves: a theorem about all of them is stated once. The
-- other nine, the four kernels, both square roots by name, the house's settings and strategy and the version, have no number to refuse
-- with. Definitions only.
use Rattle.std.specs.Prelude.{ℕ, Bool, List, Float}
use Rattle.cone.specs.declared.Cone.{Cone}
use Rattle.cone.specs.declared.Settings.{Settings}
use Rattle.cone.specs.declared.Found.{Found}
use Rattle.judges.specs.Refusals.{Lent, LentTwo}
use Rattle.call_search.specs.plans.Entries.{common_step_of, plan_step_of}
use Rattle.trace.specs.declared.entries.Opened.{Opened}
use Rattle.trace.specs.declared.value.Recorded.{Recorded}
use Rattle.trace.specs.entries.Opened.{opened_of}
use Rattle.trace.specs.entries.Writing as writing
use Rattle.trace.specs.value.Recorded.{recorded_in}
use Rattle.trace.specs.recording.Recording as recording
use Rattle.trace.specs.kept.Made as appends
use Rattle.trace_replay.specs.call.Replay as replays
use Rattle.trace_rescue.specs.call.Rescue as rescues
use Rattle.trace_thin.specs.call.Thin as thins
use Rattle.trace_sheet.specs.rows.Rows as rows
use Rattle.trace_sheet.specs.text.Printed as text
use Rattle.promises.specs.rules.Entries.{Entry, Answered, call, code_of}

-- ---- a call with all its arguments. A slice that is written is among them, with what it held before

pub data Call : Type 0 where
  -- the 19 that take one cone, or a record with its cone
  entry : Entry → Cone → Call
  common_step : List Cone → Bool → List Float → List Float → List Float → Settings → Call
  plan_step : List Cone → List Float → List Float → List Float → List Float → List Float → List Float → Settings → Call
  trace_create : List ℕ → Call
  trace_append : List ℕ → ℕ → appends.Call → Call
  trace_open : List ℕ → Call
  trace_record : List ℕ → ℕ → Call
  record_put : List ℕ → ℕ → ℕ → appends.Call → Call
  record_at : List ℕ → ℕ → ℕ → Call
  trace_seal : List ℕ → ℕ → ℕ → Call
  replay : List ℕ → List ℕ → Call
  rescue : List ℕ → List ℕ → ℕ → Call
  thin : List ℕ → List ℕ → Call
  thin_in_place : List ℕ → Call
  sheet_add : rows.Held → List ℕ → Call
  sheet_join : rows.Held → rows.Held → Call
  sheet_text : List ℕ → rows.Held → Call

-- ---- what it answers, with the slices that it was lent

pub data Outcome : Type 0 where
  answered : Answered → Outcome
  common : Lent Found → Outcome
  both : LentTwo Found → Outcome
  wrote : writing.Left → Outcome
  opened : Opened → Outcome
  recorded : Recorded → Outcome
  replayed : replays.Noted → Outcome
  rescued : rescues.Saved → Outcome
  thinned : thins.Left → Outcome
  summed : rows.Held → Outcome
  printed : text.Told → Outcome

-- by the definition that its contract cites
unfoldable pub made : Call → Outcome
made (entry e c) = answered (call e c)
made (common_step cs primal dq q point s) = common (common_step_of cs primal dq q point s)
made (plan_step cs dz ds z s dual_point primal_point how) = both (plan_step_of cs dz ds z s dual_point primal_point how)
made (trace_create bytes) = wrote (writing.create_of bytes)
made (trace_append bytes used a) = wrote (appends.called bytes used a)
made (trace_open bytes) = opened (opened_of bytes)
made (trace_record bytes i) = recorded (recorded_in bytes i)
made (record_put bytes at edition a) =
    wrote (recording.record_put_of bytes at edition a.cone a.flag a.settings a.dz a.ds a.z a.s a.steps)
made (record_at bytes edition at) = recorded (recording.record_at_of bytes edition at)
made (trace_seal bytes used edition) = wrote (recording.trace_seal_of bytes used edition)
made (replay bytes offsets) = replayed (replays.replay_of bytes offsets)
made (rescue input output edition) = rescued (rescues.rescue_of input output edition)
made (thin bytes output) = thinned (thins.thin_of bytes output)
made (thin_in_place bytes) = thinned (thins.thin_in_place_of bytes)
made (sheet_add h file) = summed (rows.add_of h file)
made (sheet_join h second) = summed (rows.join_of h second)
made (sheet_text bytes h) = printed (text.print_of bytes h)

-- the number that it leaves with
unfoldable pub number_in : Outcome → ℕ
number_in (answered a) = code_of a
number_in (common a) = a.answer.code
number_in (both a) = a.answer.code
number_in (wrote a) = a.answer.code
number_in (opened a) = a.code
number_in (recorded a) = a.code
number_in (replayed a) = a.answer.code
number_in (rescued a) = a.answer.code
number_in (thinned a) = a.answer.code
number_in (summed a) = a.totals.code
number_in (printed a) = a.answer.code

abbrev pub number_of : Call → ℕ
number_of a = number_in (made a)
