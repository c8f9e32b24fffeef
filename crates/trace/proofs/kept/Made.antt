-- A trace that `create` and calls of `append` make is good: by the calls' number, from the empty trace. Assumes nothing.
use mathlib.Core.Path.{◌≡◌, refl, ap, ◌∙◌}
use mathlib.Core.Bool.{Bool, true, false}
use mathlib.Core.List.{List, [], ◌∷◌, ◌++◌}
use Prim.Native.Nat.{ℕ, ◌≤◌}
use native.Mathlib.Omega.{arith}
use lib.Dec.{eqb}
use lib.ListN.{length, take, drop}
use lib.Seq.{take_at, drop_at}
use borrow.Author.Tests.{eqb-true, le-ltb}
use Rattle.octets.specs.words.Words.{AllBelow}
use Rattle.octets.proofs.words.Words.{below-append, below-drop}
use Rattle.trace_layout.specs.Records.{Record}
use Rattle.trace_layout.specs.Traces.{newest_edition, known, trace_of, good_trace, records_of, AllLaid}
use Rattle.trace_layout.specs.Inverses.{Makes}
use Rattle.trace_layout.proofs.Traces.{trace-below}
use Rattle.trace_layout.proofs.Inverses.{traces_inverse}
use Rattle.trace.specs.entries.Values.{Passed}
use Rattle.trace.specs.entries.Writing.{create_of}
use Rattle.trace.specs.kept.Appended.{trace_in, Created}
use Rattle.trace.specs.kept.Made.{Call, handed, called, AllPassed, Held, begun, append_one, append_all, MadeGood}
use Rattle.trace.proofs.kept.Appended.{append_done, bytes_after}

-- ---- the empty trace

abbrev empty : List ℕ
empty = trace_of newest_edition []

makes_empty : Makes newest_edition []
unfolding AllLaid known
makes_empty = record { edition = refl; few = omega arith; laid = tt }

module _ (bs : List ℕ) (room : 20 ≤ length bs) where
  pub is_created : create_of bs ≡ record { answer = record { code = 0; length = length empty }; bytes = empty ++ drop (length empty) bs }
  unfolding create_of
  is_created = rw (le-ltb (length bs) 20 room)

  pub trace_created : trace_in (create_of bs) ≡ empty
  trace_created = rw is_created (take_at empty (drop (length empty) bs) (length empty) refl)

  pub create_done : Created bs (create_of bs)
  create_done = record {
    good = rw trace_created (traces_inverse.good newest_edition [] makes_empty);
    edition = rw trace_created (traces_inverse.edition newest_edition [] makes_empty);
    records = rw trace_created (traces_inverse.read newest_edition [] makes_empty);
    behind = rw is_created (drop_at empty (drop (length empty) bs) (length empty) refl);
  }

  bytes_created : AllBelow 256 bs → AllBelow 256 (create_of bs).bytes
  bytes_created bytes =
      rw is_created (below-append 256 empty (drop (length empty) bs) (trace-below newest_edition [])
      (below-drop 256 (length empty) bs bytes))

-- ---- call by call

-- what holds after each call
pub record Stands (h : Held) : Type 0 where
  pub bytes : AllBelow 256 h.bytes
  pub good : good_trace (take h.used h.bytes) ≡ true
  pub records : records_of (take h.used h.bytes) ≡ h.done

pub one-call : (h : Held) (a : Call) → Stands h → Passed a.cone a.flag a.settings a.dz a.ds a.z a.s a.steps
    → (done : Bool) → eqb (called h.bytes h.used a).answer.code 0 ≡ done → Stands (append_one h a)
unfolding append_one
one-call h a now passed false off = rw off now
one-call h a now passed true on =
    let code = eqb-true _ _ on in
    let after =
    append_done a.cone a.flag a.settings a.dz a.ds a.z a.s a.steps passed h.bytes h.used now.bytes code in
    let bytes =
    bytes_after a.cone a.flag a.settings a.dz a.ds a.z a.s a.steps passed h.bytes h.used now.bytes code in
    let records = after.records ∙ ap (λ (rs : List Record). rs ++ (handed a ∷ [])) now.records in
    rw on (record { bytes = bytes; good = after.good; records = records })

all_calls : (h : Held) (calls : List Call) → Stands h → AllPassed calls → Stands (append_all h calls)
unfolding append_all AllPassed
all_calls h [] now passed = now
all_calls h (a ∷ calls) now passed =
    all_calls (append_one h a) calls (one-call h a now passed.0 (eqb (called h.bytes h.used a).answer.code 0) refl) passed.1

pub stands_begun : (bs : List ℕ) → AllBelow 256 bs → 20 ≤ length bs → Stands (begun bs)
stands_begun bs bytes room =
    record { bytes = bytes_created bs room bytes; good = (create_done bs room).good; records = (create_done bs room).records }

pub made-good : MadeGood
made-good = record {
  good = λ bs calls bytes room passed. (all_calls (begun bs) calls (stands_begun bs bytes room) passed).good;
  records = λ bs calls bytes room passed. (all_calls (begun bs) calls (stands_begun bs bytes room) passed).records;
}
