-- 02, Order 13, of the calls `spindle_thin` and `spindle_thin_in_place` themselves: what holds of every outcome that their contracts allow.
-- `Post` is the claim of a call's `ensures`, which says that the trace holds bytes, too. Statements; proofs/thin_kept/Calls has the proofs.
use Rattle.std.specs.Prelude.{ℕ, ◌+◌, ◌≤◌, ◌<◌, ◌≡◌, true, false, List, ◌++◌, length, drop, replicate}
use denote.Triple.Clauses.{AtExit}
use contract.Lifetimes.{Lfts}
use borrow.Fn.Kinds.{Dens, ended_of}
use Rattle.trace_layout.specs.Traces.{good_trace}
use Rattle.trace_replay.specs.declared.call.Replayed.{Replayed}
use Rattle.trace_thin.specs.declared.call.Thinned.{Thinned}
use Rattle.trace_thin.specs.call.Thin.{Left, refuse}
use Rattle.trace_thin.specs.call.Thins.{trace_in, none_dropped, Done}
use Rattle.spindle.proofs.spindle_thin.Kinds as thin_kinds
use Rattle.spindle.proofs.spindle_thin.Reads as thin
use Rattle.spindle.proofs.spindle_thin_in_place.Kinds as within_kinds
use Rattle.spindle.proofs.spindle_thin_in_place.Reads as within
use Rattle.spindle.proofs.spindle_replay.Kinds as replay_kinds
use Rattle.spindle.proofs.spindle_replay.Reads as replay
use Rattle.promises.specs.thin_kept.Replays.{Counted}

-- ---- calls with the arguments a, which answered x and left s

-- into a separate output. The arguments: the trace, the output
pub record ThinCall : Type 0 where
  pub κs : Lfts 2
  pub a : Dens κs thin_kinds.ps
  pub x : Thinned
  pub s : AtExit (ended_of 2 thin_kinds.ps thin_kinds.r) κs
  pub made : thin.Post κs a x s

abbrev pub trace : ThinCall → List ℕ
trace c = c.a.0.now

-- the output as the call found it
abbrev pub room : ThinCall → List ℕ
room c = c.a.1.0.now

abbrev pub left : ThinCall → Left
left c = record { answer = c.x; output = c.s.1.0.now }

-- inside one buffer. The argument: the trace
pub record WithinCall : Type 0 where
  pub κs : Lfts 1
  pub a : Dens κs within_kinds.ps
  pub x : Thinned
  pub s : AtExit (ended_of 1 within_kinds.ps within_kinds.r) κs
  pub made : within.Post κs a x s

abbrev pub old : WithinCall → List ℕ
old c = c.a.0.now

abbrev pub left_in : WithinCall → Left
left_in c = record { answer = c.x; output = c.s.0.now }

-- a replay. The arguments: the trace, the row for offsets
pub record ReplayCall : Type 0 where
  pub κs : Lfts 2
  pub a : Dens κs replay_kinds.ps
  pub x : Replayed
  pub s : AtExit (ended_of 2 replay_kinds.ps replay_kinds.r) κs
  pub made : replay.Post κs a x s

abbrev pub replayed_trace : ReplayCall → List ℕ
replayed_trace c = c.a.0.now

-- ---- the statements

pub record CallsThin : Type 0 where
  -- "a record byte-equal to an earlier kept record is dropped, the others in their old order, offsets and trailer new, edition kept"
  pub done : (c : ThinCall) → c.x.code ≡ 0 → Done (trace c) (left c)
  pub in_place : (c : WithinCall) → c.x.code ≡ 0 → Done (old c) (left_in c)
  -- "Thinning the result again drops none": a second call on that trace changes nothing
  pub again : (c d : ThinCall) → c.x.code ≡ 0 → trace d ≡ trace_in (left c) → c.x.length ≤ length (room d)
      → left d ≡ record { answer = none_dropped c.x; output = trace_in (left c) ++ drop c.x.length (room d) }
  pub again_in_place : (c d : WithinCall) → c.x.code ≡ 0 → old d ≡ trace_in (left_in c)
      → left_in d ≡ record { answer = none_dropped c.x; output = trace_in (left_in c) }
  -- "the freed tail bytes are set to zero"
  pub cleared : (c : WithinCall) (n : ℕ) → c.x.code ≡ 0 → c.x.length + n ≡ length (old c)
      → drop c.x.length (left_in c).output ≡ replicate n 0
  -- "a separate output stays unchanged after the new trailer"
  pub behind : (c : ThinCall) → c.x.code ≡ 0 → drop c.x.length (left c).output ≡ drop c.x.length (room c)
  -- both forms tell the same of one trace, and leave the same
  pub same : (c : ThinCall) (d : WithinCall) → c.x.code ≡ 0 → old d ≡ trace c
      → (d.x ≡ c.x) × (trace_in (left_in d) ≡ trace_in (left c))
  -- "8 only for a separate output that is too short": shorter than what is left in one buffer
  pub short : (c : ThinCall) (d : WithinCall) → good_trace (trace c) ≡ true → old d ≡ trace c → length (room c) < d.x.length
      → left c ≡ refuse (room c) 8
  pub long : (c : ThinCall) (d : WithinCall) → good_trace (trace c) ≡ true → old d ≡ trace c → d.x.length ≤ length (room c) → c.x.code ≡ 0
  pub always : (d : WithinCall) → good_trace (old d) ≡ true → d.x.code ≡ 0
  -- "9 for a broken trace"
  pub broken : (c : ThinCall) → good_trace (trace c) ≡ false → left c ≡ refuse (room c) 9
  pub broken_in_place : (d : WithinCall) → good_trace (old d) ≡ false → left_in d ≡ refuse (old d) 9

-- Orders 2 and 13: a replay of what was left counts just the kept records
pub record CallsThinReplay : Type 0 where
  pub apart : (c : ThinCall) (r : ReplayCall) → c.x.code ≡ 0 → replayed_trace r ≡ trace_in (left c) → r.x.code ≡ 0
      → Counted (trace c) (left c) r.x
  pub in_place : (c : WithinCall) (r : ReplayCall) → c.x.code ≡ 0 → replayed_trace r ≡ trace_in (left_in c) → r.x.code ≡ 0
      → Counted (old c) (left_in c) r.x
