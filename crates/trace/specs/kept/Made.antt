-- A trace that `create` and calls of `append` make, one after another, refused ones included. Definitions, and the statement that it is
-- good.
use Rattle.std.specs.Prelude.{ℕ, ◌≤◌, ◌≡◌, true, cond, List, [], ◌∷◌, ◌++◌, eqb, Float, length, take}
use Rattle.cone.specs.declared.Cone.{Cone}
use Rattle.cone.specs.declared.Settings.{Settings}
use Rattle.cone.specs.declared.Steps.{Steps}
use Rattle.octets.specs.words.Words.{AllBelow}
use Rattle.trace_layout.specs.Records.{Record}
use Rattle.trace_layout.specs.Traces.{trailer_size, good_trace, records_of}
use Rattle.trace.specs.places.Given.{given_of}
use Rattle.trace.specs.entries.Writing.{Left, create_of, append_of}
use Rattle.trace.specs.entries.Values.{Passed}

-- what a call of `append` is handed beside the slice
pub record Call : Type 0 where
  pub cone : Cone
  pub flag : ℕ
  pub settings : Settings
  pub dz : List Float
  pub ds : List Float
  pub z : List Float
  pub s : List Float
  pub steps : Steps

abbrev pub handed : Call → Record
handed a = given_of a.cone a.flag a.settings a.dz a.ds a.z a.s a.steps

abbrev pub called : List ℕ → ℕ → Call → Left
called bs used a = append_of bs used a.cone a.flag a.settings a.dz a.ds a.z a.s a.steps

-- every argument is a value of its type
unfoldable pub AllPassed : List Call → Type 0
AllPassed [] = Unit
AllPassed (a ∷ calls) = Passed a.cone a.flag a.settings a.dz a.ds a.z a.s a.steps × AllPassed calls

-- the caller's slice, how much of it is in use, and the records of the calls that were done
pub record Held : Type 0 where
  pub bytes : List ℕ
  pub used : ℕ
  pub done : List Record

abbrev pub begun : List ℕ → Held
begun bs = record { bytes = (create_of bs).bytes; used = (create_of bs).answer.length; done = [] }

-- after a refused call the slice and its use are as they were
unfoldable pub append_one : Held → Call → Held
append_one h a =
    let left = called h.bytes h.used a in
    cond (eqb left.answer.code 0) (record { bytes = left.bytes; used = left.answer.length; done = h.done ++ (handed a ∷ []) }) h

unfoldable pub append_all : Held → List Call → Held
append_all h [] = h
append_all h (a ∷ calls) = append_all (append_one h a) calls

-- Whatever is called, the trace is good, and its records are those of the calls that were done, in their order.
pub record MadeGood : Type 1 where
  pub good : (bs : List ℕ) (calls : List Call) → AllBelow 256 bs → trailer_size ≤ length bs → AllPassed calls
      → good_trace (take (append_all (begun bs) calls).used (append_all (begun bs) calls).bytes) ≡ true
  pub records : (bs : List ℕ) (calls : List Call) → AllBelow 256 bs → trailer_size ≤ length bs → AllPassed calls
      → records_of (take (append_all (begun bs) calls).used (append_all (begun bs) calls).bytes) ≡ (append_all (begun bs) calls).done
