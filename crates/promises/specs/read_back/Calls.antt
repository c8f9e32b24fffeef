-- 02, Order 1: "what one writes the other reads back the same", of the calls `spindle_trace_append` and `spindle_trace_record` themselves.
-- `Post` is the claim of a call's `ensures`. No hypothesis is left to a caller but that the two calls were made, one on what the other left.
-- Statements; proofs/read_back/Calls has the proofs.
use Rattle.std.specs.Prelude.{ℕ, ◌<◌, ◌≡◌, List, take}
use denote.Triple.Clauses.{AtExit}
use contract.Lifetimes.{Lfts}
use borrow.Fn.Kinds.{Dens, ended_of}
use Rattle.trace_layout.specs.Traces.{list_at, count_at, edition_at}
use Rattle.trace.specs.declared.entries.Written.{Written}
use Rattle.trace.specs.declared.value.Recorded.{Recorded}
use Rattle.trace.specs.value.Recorded.{recorded_in}
use Rattle.trace.specs.kept.Kept.{kept_of}
use Rattle.spindle.proofs.spindle_trace_append.Kinds as append_kinds
use Rattle.spindle.proofs.spindle_trace_append.Reads as append
use Rattle.spindle.proofs.spindle_trace_record.Kinds as record_kinds
use Rattle.spindle.proofs.spindle_trace_record.Reads as record_reads

-- an append with the arguments a, which answered x and left s, and then a record with the arguments b, which answered y. The arguments: the
-- slice, `used`, cone, flag, settings, dz, ds, z, s, steps; the trace, its record's number
module _ (κs : Lfts 5) (a : Dens κs append_kinds.ps) (x : Written) (s : AtExit (ended_of 5 append_kinds.ps append_kinds.r) κs) (ks : Lfts 1)
    (b : Dens ks record_kinds.ps) (y : Recorded) where
  -- the trace that the append was called on
  abbrev pub before : List ℕ
  before = take a.1.0 a.0.now

  pub record ReadBack : Type 0 where
    -- the number of the new record gives what the append was given, at the place where the list stood
    pub last : b.1.0 ≡ count_at before
        → y ≡ kept_of (edition_at before) (list_at before) a.1.1.0 a.1.1.1.0 a.1.1.1.1.0 a.1.1.1.1.1.0.now
        a.1.1.1.1.1.1.0.now a.1.1.1.1.1.1.1.0.now a.1.1.1.1.1.1.1.1.0.now
        a.1.1.1.1.1.1.1.1.1.0
    -- an earlier number gives what it gave before the append
    pub earlier : b.1.0 < count_at before → y ≡ recorded_in before b.1.0

-- the append was done, and the record was asked of the trace that it left
abbrev pub CallsReadBack : Type 0
CallsReadBack =
    (κs : Lfts 5) (a : Dens κs append_kinds.ps) (x : Written) (s : AtExit (ended_of 5 append_kinds.ps append_kinds.r) κs)
    → append.Post κs a x s → x.code ≡ 0
    → (ks : Lfts 1) (b : Dens ks record_kinds.ps) (y : Recorded) (t : AtExit (ended_of 1 record_kinds.ps record_kinds.r) ks)
    → record_reads.Post ks b y t → b.0.now ≡ take x.length s.0.now
    → ReadBack κs a x s ks b y
