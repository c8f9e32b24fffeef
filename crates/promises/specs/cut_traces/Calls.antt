-- 02, Orders 7 and 8, of the call `spindle_rescue` itself: what holds of every outcome that its contract allows. `Post` is the claim of a
-- call's `ensures`, which says that the input holds bytes, too. Statements; proofs/cut_traces/Calls has the proofs.
use Rattle.std.specs.Prelude.{ℕ, ◌+◌, ◌-◌, ◌*◌, ◌≤◌, ◌<◌, ◌≡◌, true, false, List, [], ◌++◌, map, length, take, drop}
use denote.Triple.Clauses.{AtExit}
use contract.Lifetimes.{Lfts}
use borrow.Fn.Kinds.{Dens, ended_of}
use Rattle.octets.specs.words.Words.{AllBelow}
use Rattle.trace_layout.specs.Records.{laid_at}
use Rattle.trace_layout.specs.Traces.{most_records, trailer_size, known, records_bytes, trace_of, edition_at, good_trace, records_of}
use Rattle.trace_rescue.specs.declared.call.Rescued.{Rescued}
use Rattle.trace_rescue.specs.call.Rescue.{ends_known, edition_for, kept_of, saved_of, Saved, refuse}
use Rattle.trace_rescue.specs.call.Rescues.{trace_in, right_again, Done}
use Rattle.spindle.proofs.spindle_rescue.Kinds as rescue_kinds
use Rattle.spindle.proofs.spindle_rescue.Reads as rescue
use Rattle.promises.specs.cut_traces.Cuts.{KeptOfCut}
use Rattle.promises.specs.read_back.Puts.{DonePut, put_turn, Chained}

-- a call with the arguments a, which answered x and left s. The arguments: the input, the output, the edition
pub record RescueCall : Type 0 where
  pub κs : Lfts 2
  pub a : Dens κs rescue_kinds.ps
  pub x : Rescued
  pub s : AtExit (ended_of 2 rescue_kinds.ps rescue_kinds.r) κs
  pub made : rescue.Post κs a x s

abbrev pub input : RescueCall → List ℕ
input c = c.a.0.now

-- the output as the call found it
abbrev pub room : RescueCall → List ℕ
room c = c.a.1.0.now

abbrev pub given : RescueCall → ℕ
given c = c.a.1.1.0

-- the edition that its records are read by
abbrev pub edition : RescueCall → ℕ
edition c = edition_for (input c) (given c)

abbrev pub left : RescueCall → Saved
left c = record { answer = c.x; output = c.s.1.0.now }

-- the trace that it left at the output's front
abbrev pub new : RescueCall → List ℕ
new c = trace_in (left c)

pub record CallsRescue : Type 0 where
  -- "keep every whole record until the first that is cut or malformed, write a good list and trailer, and report"
  pub done : (c : RescueCall) → c.x.code ≡ 0 → Done (input c) (room c) (left c)
  -- a second call on that trace finds it right and changes nothing, whatever edition it is given
  pub again : (c d : RescueCall) → c.x.code ≡ 0 → input d ≡ new c → c.x.length ≤ length (room d)
      → left d ≡ record { answer = right_again c.x; output = new c ++ drop c.x.length (room d) }
  -- "A good trace comes out byte for byte with 0 dropped"
  pub good : (c : RescueCall) → c.x.code ≡ 0 → good_trace (input c) ≡ true → (new c ≡ input c) × (c.x.dropped ≡ 0)
  -- "Dropped is the input length less the kept records"
  pub dropped : (c : RescueCall) → c.x.code ≡ 0 → good_trace (input c) ≡ false
      → c.x.dropped ≡ length (input c) - length (records_bytes (edition_at (new c)) (records_of (new c)))
  -- an empty input gives the empty trace
  pub empty : (c : RescueCall) → known (given c) ≡ true → trailer_size ≤ length (room c) → input c ≡ [] → new c ≡ trace_of (given c) []
  -- Order 8: "Rescue keeps the edition if the input ends in a known edition and `BACK`, and otherwise takes it from its caller"
  pub kept : (c : RescueCall) → c.x.code ≡ 0 → ends_known (input c) ≡ true → edition_at (new c) ≡ edition_at (input c)
  pub unread : (c d : RescueCall) → ends_known (input c) ≡ true → input d ≡ input c → room d ≡ room c → left d ≡ left c
  pub taken : (c : RescueCall) → c.x.code ≡ 0 → ends_known (input c) ≡ false → edition_at (new c) ≡ given c
  -- "another edition gives 9"
  pub other : (c : RescueCall) → ends_known (input c) ≡ false → known (given c) ≡ false → left c ≡ refuse (room c) 9
  -- Order 7: "8 if the output has no room", and only then
  pub short : (c : RescueCall) → known (edition c) ≡ true → length (room c) < length (saved_of (edition c) (input c))
      → left c ≡ refuse (room c) 8
  pub long : (c : RescueCall) → known (edition c) ≡ true → length (saved_of (edition c) (input c)) ≤ length (room c) → c.x.code ≡ 0
  pub enough : (c : RescueCall) → known (edition c) ≡ true
      → length (input c) + 8 * length (kept_of (edition c) (input c)) + trailer_size ≤ length (room c)
      → c.x.code ≡ 0

-- A file with the bytes bs, a good trace, was cut at byte k, and what was left is read by its own edition, as in Cuts
abbrev pub CallsCut : Type 0
CallsCut =
    (c : RescueCall) (bs : List ℕ) (k : ℕ) → AllBelow 256 bs → good_trace bs ≡ true → input c ≡ take k bs → edition c ≡ edition_at bs
    → c.x.code ≡ 0 → KeptOfCut bs k (left c)

-- "A host that loses power leaves a trace without list and trailer." Records were put one behind the other in the slice bs, until `used`
-- bytes of it were in use; behind them stands `rest`, at most the first bytes of a record. A rescue in the edition of the puts keeps each
-- of them as it was put, and drops only the rest
abbrev pub CallsUnsealed : Type 0
CallsUnsealed =
    (e : ℕ) (puts : List (DonePut e)) (bs cs : List ℕ) (used : ℕ) → Chained bs 0 (map (put_turn e) puts) cs used
    → length puts ≤ most_records → (c : RescueCall) (rest : List ℕ) → input c ≡ take used cs ++ rest → laid_at e rest ≡ false
    → ends_known (input c) ≡ false → given c ≡ e → c.x.code ≡ 0
    → (c.x.kept ≡ length puts) × (c.x.dropped ≡ length rest)
    × (records_bytes (edition_at (new c)) (records_of (new c)) ≡ take used cs)
