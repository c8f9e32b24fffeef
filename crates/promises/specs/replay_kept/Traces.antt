-- 02, Orders 1 and 2 together: a trace that `create` and calls of `append` make of searches as they were made replays with `differ 0`. The
-- statement; proofs/replay_kept/Traces has the proof.
use Rattle.std.specs.Prelude.{ℕ, ◌≤◌, ◌≡◌, List, [], ◌∷◌, length, take}
use Rattle.octets.specs.words.Words.{AllBelow}
use Rattle.trace_layout.specs.Traces.{most_bytes, trailer_size, newest_edition}
use Rattle.trace.specs.kept.Made.{Call, AllPassed, Held, begun, append_all}
use Rattle.trace_replay.specs.call.Replay.{replay_of}
use Rattle.trace_replay.specs.text.Text.{replay_text}
use Rattle.trace_replay.specs.file.Printed.{printed_of}
use Rattle.promises.specs.replay_kept.Replays.{Searched}

-- each call hands over what its search was given, and what that answered
unfoldable pub AllSearched : List Call → Type 0
AllSearched [] = Unit
AllSearched (a ∷ calls) =
    Searched newest_edition a.cone a.flag a.settings a.dz a.ds a.z a.s a.steps × AllSearched calls

-- the caller's slice and the trace in it, after the calls, of which some may have been refused: none of the records that are there differs
pub record ReplaysWhole (h : Held) : Type 0 where
  pub replayed : (at : List ℕ)
      → replay_of (take h.used h.bytes) at
      ≡ record { answer = record { code = 0; records = length h.done; same = length h.done; differ = 0 }; offsets = at }
  -- the three lines that are printed of a file with these bytes
  pub printed : h.used ≤ most_bytes → printed_of (take h.used h.bytes) ≡ replay_text (length h.done) (length h.done) 0 []

abbrev pub MadeReplays : Type 0
MadeReplays =
    (bs : List ℕ) (calls : List Call) → AllBelow 256 bs → trailer_size ≤ length bs → AllPassed calls → AllSearched calls
    → ReplaysWhole (append_all (begun bs) calls)
