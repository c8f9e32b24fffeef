-- 02: "what one writes the other reads back the same", of what callers call. The contracts of `append` and `record`
-- are read as the check reads them: `Post` of a function's `Reads` is the claim of its `ensures`. No hypothesis is
-- left to a caller but that the calls were made, one on what the other left. Assumes nothing.
use mathlib.Core.Path.{◌≡◌, sym, ap, ◌∙◌}
use mathlib.Core.List.{List}
use Prim.Native.Nat.{ℕ, ◌<◌}
use lib.ListN.{take}
use denote.Triple.Clauses.{AtExit}
use contract.Lifetimes.{Lfts}
use borrow.Fn.Kinds.{Dens, ended_of}
use Rattle.trace_layout.specs.Traces.{list_at, count_at, edition_at}
use Rattle.trace.specs.declared.entries.Written.{Written}
use Rattle.trace.specs.entries.Writing.{Left}
use Rattle.trace.proofs.entries.append.Kinds as append_kinds
use Rattle.trace.proofs.entries.append.Reads as append
use Rattle.trace.specs.declared.value.Recorded.{Recorded}
use Rattle.trace.specs.value.Recorded.{recorded_in}
use Rattle.trace.proofs.value.record.Kinds as record_kinds
use Rattle.trace.proofs.value.record.Reads as record_reads
use Rattle.trace.specs.kept.Appended.{trace_in}
use Rattle.trace.specs.kept.Kept.{kept_of}
use Rattle.trace.proofs.kept.Kept.{append_kept, earlier_kept}

-- a call of `append` that was done: its arguments a, its answer x, and what it left
module _ (κs : Lfts 5) (a : Dens κs append_kinds.ps) (x : Written) (s : AtExit (ended_of 5 append_kinds.ps append_kinds.r) κs)
    (called : append.Post κs a x s) (done : x.code ≡ 0) where
  abbrev before : List ℕ
  before = take a.1.0 a.0.now

  abbrev after : List ℕ
  after = take x.length s.0.now

  abbrev left : Left
  left = record { answer = x; bytes = s.0.now }

  -- a call of `record` on the trace that it left, at place i: its answer y
  module _ (ks : Lfts 1) (b : Dens ks record_kinds.ps) (y : Recorded) (t : AtExit (ended_of 1 record_kinds.ps record_kinds.r) ks)
      (read : record_reads.Post ks b y t) (on : b.0.now ≡ after) where
    -- the last one is what `append` was given, where the list stood
    pub last_read : b.1.0 ≡ count_at before
        → y ≡ kept_of (edition_at before) (list_at before) a.1.1.0 a.1.1.1.0 a.1.1.1.1.0 a.1.1.1.1.1.0.now
        a.1.1.1.1.1.1.0.now a.1.1.1.1.1.1.1.0.now a.1.1.1.1.1.1.1.1.0.now
        a.1.1.1.1.1.1.1.1.1.0
    last_read place =
        read ∙ ap (λ (l : List ℕ). recorded_in l b.1.0) (on ∙ ap trace_in called.0) ∙ ap (recorded_in _) place
        ∙ append_kept _ _ _ _ _ _ _ _ called.2 a.0.now a.1.0 called.1
        (sym (ap (λ (l : Left). l.answer.code) called.0) ∙ done)

    -- an earlier one is what it was
    pub earlier_read : b.1.0 < count_at before → y ≡ recorded_in before b.1.0
    earlier_read few =
        read ∙ ap (λ (l : List ℕ). recorded_in l b.1.0) (on ∙ ap trace_in called.0)
        ∙ earlier_kept _ _ _ _ _ _ _ _ called.2 a.0.now a.1.0 called.1
        (sym (ap (λ (l : Left). l.answer.code) called.0) ∙ done) b.1.0 few
