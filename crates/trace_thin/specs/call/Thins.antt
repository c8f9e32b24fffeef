-- What a done thinning leaves, in both forms, and what is refused. Statements; proofs/call/Thins has the proofs.
use Rattle.std.specs.Prelude.{ℕ, ◌+◌, ◌≤◌, ◌<◌, ◌≡◌, true, false, List, [], ◌++◌, length, take, drop, replicate}
use Rattle.octets.specs.words.Words.{AllBelow}
use Rattle.trace_layout.specs.Records.{Record, bytes_of}
use Rattle.trace_layout.specs.Traces.{edition_at, good_trace, records_of}
use Rattle.trace_thin.specs.firsts.Firsts.{new_behind}
use Rattle.trace_thin.specs.declared.call.Thinned.{Thinned}
use Rattle.trace_thin.specs.call.Thin.{Left, refuse, thin_of, thin_in_place_of}

-- the trace that a call leaves at the front of what it was lent
abbrev pub trace_in : Left → List ℕ
trace_in left = take left.answer.length left.output

-- what a call answers that finds nothing to drop
abbrev pub none_dropped : Thinned → Thinned
none_dropped a = record { code = 0; kept = a.kept; dropped = 0; length = a.length }

-- the first of each kind in their old order: the records of which none before, kept or dropped, has the same bytes
abbrev pub first_of_kind : List ℕ → List Record
first_of_kind bs = new_behind (bytes_of (edition_at bs)) [] (records_of bs)

-- of a trace bs, in either form
pub record Done (bs : List ℕ) (left : Left) : Type 0 where
  pub good : good_trace (trace_in left) ≡ true
  pub edition : edition_at (trace_in left) ≡ edition_at bs
  pub records : records_of (trace_in left) ≡ first_of_kind bs
  pub kept : left.answer.kept ≡ length (records_of (trace_in left))
  -- "the last two sum to the old record count"
  pub sum : left.answer.kept + left.answer.dropped ≡ length (records_of bs)
  pub shorter : left.answer.length ≤ length bs
  -- "Thinning the result again drops none": and it gives the same trace, in either form
  pub again : (room : List ℕ) → left.answer.length ≤ length room
      → thin_of (trace_in left) room
      ≡ record { answer = none_dropped left.answer; output = trace_in left ++ drop left.answer.length room }
  pub again_in_place : thin_in_place_of (trace_in left) ≡ record { answer = none_dropped left.answer; output = trace_in left }

pub record Thins : Type 0 where
  pub done : (bs old : List ℕ) → AllBelow 256 bs → (thin_of bs old).answer.code ≡ 0 → Done bs (thin_of bs old)
  pub in_place : (bs : List ℕ) → AllBelow 256 bs → (thin_in_place_of bs).answer.code ≡ 0 → Done bs (thin_in_place_of bs)
  -- "a separate output stays unchanged after the new trailer"
  pub behind : (bs old : List ℕ) → let left = thin_of bs old in left.answer.code ≡ 0 → drop left.answer.length left.output
      ≡ drop left.answer.length old
  -- "the freed tail bytes are set to zero", and no byte more or less is there than was
  pub cleared : (bs : List ℕ) → let left = thin_in_place_of bs in left.answer.code ≡ 0 → (n : ℕ) → left.answer.length + n ≡ length bs
      → drop left.answer.length left.output ≡ replicate n 0
  -- both forms give the same answer and the same trace
  pub same : (bs old : List ℕ) → AllBelow 256 bs → (thin_of bs old).answer.code ≡ 0
      → ((thin_in_place_of bs).answer ≡ (thin_of bs old).answer) × (trace_in (thin_in_place_of bs) ≡ trace_in (thin_of bs old))
  -- "9 for a broken trace", whatever room there is
  pub broken : (bs old : List ℕ) → good_trace bs ≡ false → (thin_of bs old ≡ refuse old 9) × (thin_in_place_of bs ≡ refuse bs 9)
  -- "8 only for a separate output that is too short": of a good trace, exactly then
  pub short : (bs old : List ℕ) → good_trace bs ≡ true → length old < (thin_in_place_of bs).answer.length → thin_of bs old ≡ refuse old 8
  pub long : (bs old : List ℕ) → good_trace bs ≡ true → (thin_in_place_of bs).answer.length ≤ length old → (thin_of bs old).answer.code ≡ 0
  pub always : (bs : List ℕ) → good_trace bs ≡ true → (thin_in_place_of bs).answer.code ≡ 0
