-- By the calls' number, from the empty trace: after each call the trace is good, of edition 3, its records are those that were handed over,
-- and each of them replays the same. Assumes nothing.
use Prim.Native.Nat.{ℕ, suc, ◌+◌, ◌≤◌}
use mathlib.Core.Path.{◌≡◌, refl, ap, ◌∙◌}
use mathlib.Core.Bool.{Bool, true, false}
use mathlib.Core.List.{List, [], ◌∷◌, ◌++◌}
use native.Mathlib.Omega.{arith}
use lib.Dec.{eqb}
use lib.ListN.{length, take, drop, length-take}
use borrow.Author.Tests.{eqb-true, le-ltb}
use Rattle.cone.specs.table.Table.{trace_row, settle}
use Rattle.octets.specs.words.Words.{AllBelow}
use Rattle.octets.proofs.words.Words.{below-append, below-drop}
use Rattle.trace_layout.specs.Records.{Record, size_in}
use Rattle.trace_layout.specs.Traces.{most_bytes, trailer_size, newest_edition, trace_of, edition_at, good_trace, records_of}
use Rattle.trace_layout.proofs.Limits.{is_small}
use Rattle.trace_layout.proofs.Traces.{trace-below}
use Rattle.trace.specs.entries.Values.{Passed}
use Rattle.trace.specs.entries.Writing.{create_of}
use Rattle.trace.specs.kept.Made.{Call, handed, called, AllPassed, Held, begun, append_one, append_all}
use Rattle.trace.proofs.kept.Appended.{append_done, bytes_after}
use Rattle.trace.proofs.kept.Made.{create_done}
use Rattle.trace_replay.specs.call.Replay.{same_record, same_count, noted, differing, replay_of}
use Rattle.trace_replay.specs.text.Text.{replay_text}
use Rattle.trace_replay.specs.file.Printed.{trace_text, printed_of}
use Rattle.promises.specs.replay_kept.Replays.{Searched}
use Rattle.promises.specs.replay_kept.Traces.{AllSearched, MadeReplays}
use Rattle.promises.proofs.replay_kept.Replays.{searched_same}

-- ---- records of which none differs

unfoldable AllSame : List Record → Type 0
AllSame [] = Unit
AllSame (r ∷ rs) = (same_record newest_edition r ≡ true) × AllSame rs

same_append : (rs : List Record) (r : Record) → AllSame rs → same_record newest_edition r ≡ true → AllSame (rs ++ (r ∷ []))
unfolding AllSame
same_append [] r all h = (h, tt)
same_append (x ∷ rs) r all h = (all.0, same_append rs r all.1 h)

all_counted : (rs : List Record) → AllSame rs → same_count newest_edition rs ≡ length rs
unfolding AllSame same_count
all_counted [] all = refl
all_counted (r ∷ rs) all = rw all.0 (ap suc (all_counted rs all.1))

none_differs : (at : ℕ) (rs : List Record) → AllSame rs → differing newest_edition at rs ≡ []
unfolding AllSame differing noted
none_differs at [] all = refl
none_differs at (r ∷ rs) all = rw all.0 (none_differs (at + size_in newest_edition r) rs all.1)

-- ---- call by call

abbrev trace : Held → List ℕ
trace h = take h.used h.bytes

record Stands (h : Held) : Type 0 where
  pub bytes : AllBelow 256 h.bytes
  pub good : good_trace (trace h) ≡ true
  pub edition : edition_at (trace h) ≡ newest_edition
  pub records : records_of (trace h) ≡ h.done
  pub same : AllSame h.done

abbrev PassedIn : Call → Type 0
PassedIn a = Passed a.cone a.flag a.settings a.dz a.ds a.z a.s a.steps

abbrev SearchedIn : ℕ → Call → Type 0
SearchedIn e a = Searched e a.cone a.flag a.settings a.dz a.ds a.z a.s a.steps

one-call : (h : Held) (a : Call) → Stands h → PassedIn a → SearchedIn newest_edition a → (done : Bool)
    → eqb (called h.bytes h.used a).answer.code 0 ≡ done → Stands (append_one h a)
unfolding append_one
one-call h a now passed made false off = rw off now
one-call h a now passed made true on =
    let code = eqb-true _ _ on in
    let after =
    append_done a.cone a.flag a.settings a.dz a.ds a.z a.s a.steps passed h.bytes h.used now.bytes code in
    let bytes =
    bytes_after a.cone a.flag a.settings a.dz a.ds a.z a.s a.steps passed h.bytes h.used now.bytes code in
    let one = searched_same newest_edition a.cone a.flag a.settings a.dz a.ds a.z a.s a.steps passed made in
    rw on (record {
      bytes = bytes;
      good = after.good;
      edition = after.edition ∙ now.edition;
      records = after.records ∙ ap (λ (rs : List Record). rs ++ (handed a ∷ [])) now.records;
      same = same_append h.done (handed a) now.same one;
    })

all_calls : (h : Held) (calls : List Call) → Stands h → AllPassed calls → AllSearched calls → Stands (append_all h calls)
unfolding append_all AllPassed AllSearched
all_calls h [] now passed made = now
all_calls h (a ∷ calls) now passed made =
    all_calls (append_one h a) calls
    (one-call h a now passed.0 made.0 (eqb (called h.bytes h.used a).answer.code 0) refl) passed.1 made.1

bytes_created : (bs : List ℕ) → AllBelow 256 bs → trailer_size ≤ length bs → AllBelow 256 (create_of bs).bytes
unfolding create_of
bytes_created bs bytes room =
    let empty = trace_of newest_edition [] in
    rw (le-ltb (length bs) 20 room) (below-append 256 empty (drop (length empty) bs) (trace-below newest_edition [])
    (below-drop 256 (length empty) bs bytes))

stands_begun : (bs : List ℕ) → AllBelow 256 bs → trailer_size ≤ length bs → Stands (begun bs)
unfolding AllSame
stands_begun bs bytes room =
    let c = create_done bs room in
    record { bytes = bytes_created bs bytes room; good = c.good; edition = c.edition; records = c.records; same = tt }

-- ---- so the replay of the whole

module _ (h : Held) (now : Stands h) where
  differs_none : differing (edition_at (trace h)) 0 (records_of (trace h)) ≡ []
  differs_none = rw (now.edition, now.records) (none_differs 0 h.done now.same)

  counts_all : same_count (edition_at (trace h)) (records_of (trace h)) ≡ length h.done
  counts_all = rw (now.edition, now.records) (all_counted h.done now.same)

  replayed : (at : List ℕ)
      → replay_of (trace h) at
      ≡ record { answer = record { code = 0; records = length h.done; same = length h.done; differ = 0 }; offsets = at }
  unfolding replay_of trace_row settle
  replayed at = rw (now.good, differs_none, counts_all, now.records, le-ltb (length at) 0 (omega arith))

  printed : h.used ≤ most_bytes → printed_of (trace h) ≡ replay_text (length h.done) (length h.done) 0 []
  unfolding printed_of trace_text
  printed few =
      let short : length (trace h) ≤ most_bytes = omega (arith, length-take h.used h.bytes) in
      rw (is_small (trace h) short, now.good, differs_none, counts_all, now.records)

pub made_replays : MadeReplays
made_replays bs calls bytes room passed made =
    let h = append_all (begun bs) calls in
    let now = all_calls (begun bs) calls (stands_begun bs bytes room) passed made in
    record { replayed = replayed h now; printed = printed h now }
