-- What a done rescue leaves, when there is no room, and which edition it has. Statements; proofs/call/Rescues has the proofs.
use Rattle.std.specs.Prelude.{ℕ, ◌+◌, ◌-◌, ◌*◌, ◌≤◌, ◌<◌, ◌≡◌, true, false, List, [], ◌++◌, length, take, drop}
use Rattle.octets.specs.words.Words.{AllBelow}
use Rattle.trace_layout.specs.Traces.{trailer_size, known, records_bytes, trace_of, edition_at, good_trace, records_of}
use Rattle.trace.specs.whole.Longest.{Longest}
use Rattle.trace_rescue.specs.declared.call.Rescued.{Rescued}
use Rattle.trace_rescue.specs.call.Rescue.{ends_known, edition_for, kept_of, saved_of, Saved, refuse, rescue_of}

-- the trace that a call leaves at the front of the output
abbrev pub trace_in : Saved → List ℕ
trace_in left = take left.answer.length left.output

-- what a call answers that finds the same trace right
abbrev pub right_again : Rescued → Rescued
right_again a = record { code = 0; kept = a.kept; dropped = 0; length = a.length; right = true }

-- of any input
pub record Done (bs old : List ℕ) (left : Saved) : Type 0 where
  -- the output is a good trace, and behind it as it was
  pub good : good_trace (trace_in left) ≡ true
  pub behind : drop left.answer.length left.output ≡ drop left.answer.length old
  -- its records are the longest prefix of whole records of the input, and as many as were told
  pub records : Longest (edition_at (trace_in left)) bs (records_of (trace_in left))
  pub kept : left.answer.kept ≡ length (records_of (trace_in left))
  -- right exactly if the input was a good trace
  pub right : left.answer.right ≡ good_trace bs
  -- rescuing it again is right and changes nothing, whatever edition that caller names
  pub again : (room : List ℕ) (given : ℕ) → left.answer.length ≤ length room
      → rescue_of (trace_in left) room given
      ≡ record { answer = right_again left.answer; output = trace_in left ++ drop left.answer.length room }

pub record Rescues : Type 0 where
  pub done : (bs old : List ℕ) (given : ℕ) → AllBelow 256 bs → (rescue_of bs old given).answer.code ≡ 0
      → Done bs old (rescue_of bs old given)
  -- "A good trace comes out byte for byte with 0 dropped"
  pub good : (bs old : List ℕ) (given : ℕ) → AllBelow 256 bs → good_trace bs ≡ true → (rescue_of bs old given).answer.code ≡ 0
      → (trace_in (rescue_of bs old given) ≡ bs) × ((rescue_of bs old given).answer.dropped ≡ 0)
  -- "Dropped is the input length less the kept records"
  pub cut : (bs old : List ℕ) (given : ℕ) → AllBelow 256 bs → good_trace bs ≡ false → (rescue_of bs old given).answer.code ≡ 0
      → let new = trace_in (rescue_of bs old given) in
      (rescue_of bs old given).answer.dropped ≡ length bs - length (records_bytes (edition_at new) (records_of new))
  -- an empty input gives the empty trace of the caller's edition
  pub empty : (old : List ℕ) (given : ℕ) → trailer_size ≤ length old → known given ≡ true
      → trace_in (rescue_of [] old given) ≡ trace_of given []
  -- "8 if the output has no room": in an edition that is known, exactly if the output is shorter than the new trace
  pub short : (bs old : List ℕ) (given : ℕ) → let e = edition_for bs given in
      known e ≡ true → length old < length (saved_of e bs) → rescue_of bs old given ≡ refuse old 8
  pub long : (bs old : List ℕ) (given : ℕ) → let e = edition_for bs given in
      known e ≡ true → length (saved_of e bs) ≤ length old → (rescue_of bs old given).answer.code ≡ 0
  -- so the input's length, 8 bytes for each whole record and the trailer's size are enough
  pub enough : (bs old : List ℕ) (given : ℕ) → AllBelow 256 bs → let e = edition_for bs given in
      known e ≡ true → length bs + 8 * length (kept_of e bs) + trailer_size ≤ length old → (rescue_of bs old given).answer.code ≡ 0

-- 02, Order 8, of any input, a broken one too
pub record Editions : Type 0 where
  -- "Rescue keeps the edition if the input ends in a known edition and `BACK`": then the caller's is not looked at
  pub kept : (bs old : List ℕ) (given : ℕ) → AllBelow 256 bs → ends_known bs ≡ true → (rescue_of bs old given).answer.code ≡ 0
      → edition_at (trace_in (rescue_of bs old given)) ≡ edition_at bs
  pub unread : (bs old : List ℕ) (given other : ℕ) → ends_known bs ≡ true → rescue_of bs old given ≡ rescue_of bs old other
  -- "and otherwise takes it from its caller"
  pub taken : (bs old : List ℕ) (given : ℕ) → AllBelow 256 bs → ends_known bs ≡ false → (rescue_of bs old given).answer.code ≡ 0
      → edition_at (trace_in (rescue_of bs old given)) ≡ given
  -- "another edition gives 9", whatever room there is
  pub other : (bs old : List ℕ) (given : ℕ) → ends_known bs ≡ false → known given ≡ false → rescue_of bs old given ≡ refuse old 9
