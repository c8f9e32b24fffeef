-- Which edition is written, and what is written of an input in an edition: a good trace, if the edition is known; of a good trace in its
-- own edition the trace itself. Assumes nothing.
use mathlib.Core.Path.{◌≡◌, sym, ap, ◌∙◌}
use mathlib.Core.Bool.{Bool, true, false, ◌&&◌}
use mathlib.Core.List.{List}
use Prim.Native.Nat.{ℕ, ◌+◌, ◌*◌, ◌-◌, ◌≤◌}
use native.Mathlib.Omega.{arith}
use lib.Dec.{eqb, leb}
use lib.ListN.{length}
use borrow.Author.Tests.{le-leb, eq-eqb}
use Rattle.octets.specs.words.Words.{word_at, AllBelow}
use Rattle.trace_layout.specs.Traces.{most_records, back_mark, known, records_bytes, trace_of, edition_at, good_trace, records_of}
use Rattle.trace_layout.specs.Inverses.{Makes}
use Rattle.trace_layout.proofs.Traces.{good_ends, good_is_written}
use Rattle.trace.specs.declared.judge.Trailer.{Trailer}
use Rattle.trace.specs.judge.Opening.{trailer_at}
use Rattle.trace.proofs.seal.Sealing.{length-trace}
use Rattle.trace.proofs.whole.Whole.{whole_few, whole_laid, whole_inside}
use Rattle.trace.proofs.whole.Longest.{whole_of-good}
use Rattle.trace_rescue.specs.call.Rescue.{ends_known, edition_for, kept_of, saved_of, dropped_of}

-- ---- which edition

module _ (bs : List ℕ) (given : ℕ) where
  pub kept_edition : ends_known bs ≡ true → edition_for bs given ≡ edition_at bs
  unfolding edition_for
  kept_edition h = rw h

  pub callers_edition : ends_known bs ≡ false → edition_for bs given ≡ given
  unfolding edition_for
  callers_edition h = rw h

  -- as the code asks for it
  module _ (t : Trailer) (read : t ≡ trailer_at bs) (k : Bool) (is : k ≡ known t.edition) where
    asked : (leb 8 (length bs) && eqb t.mark back_mark && k) ≡ ends_known bs
    unfolding ends_known trailer_at
    asked = rw (is, read)

    pub chosen_kept : (leb 8 (length bs) && eqb t.mark back_mark && k) ≡ true → t.edition ≡ edition_for bs given
    unfolding trailer_at
    chosen_kept h = ap (λ (x : Trailer). x.edition) read ∙ sym (kept_edition (sym asked ∙ h))

    pub chosen_callers : (leb 8 (length bs) && eqb t.mark back_mark && k) ≡ false → given ≡ edition_for bs given
    chosen_callers h = sym (callers_edition (sym asked ∙ h))

  -- a good trace ends in its edition, which is known
  pub own_edition : AllBelow 256 bs → good_trace bs ≡ true → edition_for bs given ≡ edition_at bs
  unfolding ends_known
  own_edition bytes good =
      let ends = good_ends bs bytes good in
      let enough : leb 8 (length bs) ≡ true = le-leb 8 (length bs) (omega (arith, ends.enough)) in
      kept_edition (rw (enough, eq-eqb (word_at 4 bs (length bs - 4)) back_mark ends.mark, ends.edition))

-- ---- what is written in an edition

module _ (e : ℕ) (bs : List ℕ) (bytes : AllBelow 256 bs) where
  -- a known edition and records that make a trace
  pub makes : known e ≡ true → Makes e (kept_of e bs)
  makes edition = record { edition = edition; few = whole_few e most_records bs; laid = whole_laid e most_records bs bytes }

  abbrev end : ℕ
  end = length (records_bytes e (kept_of e bs))

  pub end_inside : end ≤ length bs
  end_inside = whole_inside e most_records bs bytes

  pub saved_length : length (saved_of e bs) ≡ end + 8 * length (kept_of e bs) + 20
  saved_length = length-trace e (kept_of e bs)

  -- ---- a good trace in its own edition

  module _ (good : good_trace bs ≡ true) (own : e ≡ edition_at bs) where
    pub own_records : kept_of e bs ≡ records_of bs
    own_records = rw own (whole_of-good bs bytes good)

    -- "A good trace comes out byte for byte"
    pub same_bytes : saved_of e bs ≡ bs
    same_bytes =
        ap (λ (k : ℕ). trace_of k (kept_of e bs)) own ∙ ap (trace_of (edition_at bs)) own_records ∙ sym (good_is_written bs bytes good)

    pub nothing_dropped : dropped_of e bs ≡ 0
    unfolding dropped_of
    nothing_dropped = rw good (omega (arith, saved_length, ap length same_bytes))

  -- ---- an input that is none

  pub rest_dropped : good_trace bs ≡ false → dropped_of e bs ≡ length bs - end
  unfolding dropped_of
  rest_dropped cut = rw cut (omega arith)
