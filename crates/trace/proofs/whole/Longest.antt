-- The theorems of specs/whole/Longest. Assumes nothing.
use mathlib.Core.Path.{◌≡◌, refl, sym, ap, ◌∙◌}
use mathlib.Core.Bool.{Bool, true, false}
use mathlib.Core.List.{List, [], ◌∷◌, ◌++◌, append-nil}
use Prim.Native.Nat.{ℕ, ◌-◌, ◌≤◌}
use native.Mathlib.Omega.{arith}
use lib.ListN.{length, take}
use lib.Seq.{take_at}
use Rattle.octets.specs.words.Words.{le, spelled, word_at, row_bytes, AllBelow}
use Rattle.octets.specs.words.Runs.{runs_bytes}
use Rattle.trace_layout.specs.Records.{Record, laid_at}
use Rattle.trace_layout.specs.Traces.{most_records, records_bytes, offsets_from, trailer_of, trace_of, AllLaid, edition_at, good_trace}
use Rattle.trace_layout.specs.Traces.{records_of}
use Rattle.trace_layout.proofs.Records.{found}
use Rattle.trace_layout.proofs.Traces.{good_ends, good_laid, good-count, good_is_written}
use Rattle.trace.specs.whole.Whole.{whole_in, whole_records}
use Rattle.trace.specs.whole.Longest.{Longest, OfWhole}
use Rattle.trace.proofs.whole.Whole.{no_more, whole_few, whole_laid, whole_prefix, whole_stopped, whole_written}

longest_whole : (e : ℕ) (bs : List ℕ) → AllBelow 256 bs → Longest e bs (whole_records e bs)
longest_whole e bs bytes = record {
  laid = whole_laid e most_records bs bytes;
  few = whole_few e most_records bs;
  prefix = whole_prefix e most_records bs bytes;
  stopped = whole_stopped e most_records bs bytes;
  longest = λ ss rest laid few is.
      ap (λ (x : List ℕ). take (length ss) (whole_records e x)) is
      ∙ ap (take (length ss)) (whole_written e most_records ss rest laid few)
      ∙ take_at ss (whole_in e (most_records - length ss) rest) (length ss) refl;
}

-- what begins with four zeros is no record
zeros_by : (e : ℕ) (t : List ℕ) → word_at 4 t 0 ≡ 0 → (b : Bool) → laid_at e t ≡ b → laid_at e t ≡ false
zeros_by e t h true g = absurd (omega (arith, (found e t g).mark, h))
zeros_by e t h false g = g

-- list and trailer begin with the offset 0: of the first record, or of the list
tail_zeros : (e : ℕ) (rs : List Record) (list : ℕ) → (length rs ≡ 0 → list ≡ 0)
    → word_at 4 (row_bytes 8 (offsets_from e 0 rs) ++ trailer_of list (length rs) e) 0 ≡ 0
unfolding offsets_from row_bytes trailer_of runs_bytes le word_at spelled
tail_zeros e [] list h = rw (h refl)
tail_zeros e (r ∷ rs) list h = refl

pub none_laid : (e : ℕ) → laid_at e [] ≡ false
unfolding laid_at word_at spelled
none_laid e = refl

-- the walk over records that were written, and nothing behind them
pub whole_of_records : (e : ℕ) (rs : List Record) → AllLaid e rs → length rs ≤ most_records → whole_records e (records_bytes e rs) ≡ rs
whole_of_records e rs laid few =
    ap (whole_records e) (sym (append-nil (records_bytes e rs))) ∙ whole_written e most_records rs [] laid few
    ∙ ap (λ (x : List Record). rs ++ x) (no_more e (most_records - length rs) [] (none_laid e))
    ∙ append-nil rs

no_records : (e : ℕ) (rs : List Record) → length rs ≡ 0 → length (records_bytes e rs) ≡ 0
unfolding records_bytes
no_records e [] h = refl
no_records e (r ∷ rs) h = absurd (omega arith)

-- so the walk over records that were written, list and trailer ends with the records
pub whole_of-trace : (e : ℕ) (rs : List Record) → AllLaid e rs → length rs ≤ most_records → whole_records e (trace_of e rs) ≡ rs
unfolding trace_of
whole_of-trace e rs laid few =
    let tail = row_bytes 8 (offsets_from e 0 rs) ++ trailer_of (length (records_bytes e rs)) (length rs) e in
    whole_written e most_records rs tail laid few
    ∙ ap (λ (x : List Record). rs ++ x)
    (no_more e (most_records - length rs) tail
    (zeros_by e tail (tail_zeros e rs (length (records_bytes e rs)) (no_records e rs)) (laid_at e tail) refl))
    ∙ append-nil rs

pub whole_of-good : (bs : List ℕ) → AllBelow 256 bs → good_trace bs ≡ true → whole_records (edition_at bs) bs ≡ records_of bs
whole_of-good bs bytes good =
    ap (whole_records (edition_at bs)) (good_is_written bs bytes good)
    ∙ whole_of-trace (edition_at bs) (records_of bs) (good_laid bs bytes good)
    (omega (arith, good-count bs bytes good, (good_ends bs bytes good).few))

pub whole_holds : OfWhole
whole_holds = record { longest = longest_whole; good = whole_of-good }
