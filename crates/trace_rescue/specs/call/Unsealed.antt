-- Bytes that were put and never sealed are what a rescue keeps whole. Statements; proofs/call/Unsealed has the proofs.
use Rattle.std.specs.Prelude.{ℕ, ◌≤◌, ◌≡◌, true, false, List, [], ◌∷◌, ◌++◌, length, take, drop}
use Rattle.trace_layout.specs.Records.{Record, Laid, Sized, laid_at}
use Rattle.trace_layout.specs.Traces.{back_mark, most_records, known, records_bytes, trace_of}
use Rattle.trace.specs.kept.Made.{Call, AllPassed}
use Rattle.trace.specs.kept.Sealed.{unused, put_all}
use Rattle.trace_rescue.specs.call.Rescue.{ends_known, Saved, rescue_of}

-- what a rescue answers that keeps the records rs, drops n bytes behind them and rebuilds list and trailer
abbrev pub rebuilt : ℕ → List Record → ℕ → List ℕ → Saved
rebuilt e rs n old =
    let new = trace_of e rs in
    record {
      answer = record { code = 0; kept = length rs; dropped = n; length = length new; right = false };
      output = new ++ drop (length new) old;
    }

pub record Unsealed : Type 1 where
  -- A host that put records one behind the other loses power: what it put is there, and behind it at most the first bytes of a record. In
  -- the edition of the puts every record is kept, and only the rest is dropped
  pub kept : (e : ℕ) (bs : List ℕ) (calls : List Call) (rest old : List ℕ) → AllPassed calls → known e ≡ true
      → let h = put_all e (unused bs) calls in
      length h.done ≤ most_records → laid_at e rest ≡ false → length (trace_of e h.done) ≤ length old
      → ends_known (take h.used h.bytes ++ rest) ≡ false
      → rescue_of (take h.used h.bytes ++ rest) old e ≡ rebuilt e h.done (length rest) old
  -- A record ends in its primal count, so records end in `BACK` only if the last one has counted 1,262,698,818 tests, which `BACK` spells
  pub unmarked : (e : ℕ) (rs : List Record) (r : Record) → Laid e r → Sized r → (r.primalcount ≡ back_mark → ⊥)
      → ends_known (records_bytes e (rs ++ (r ∷ []))) ≡ false
