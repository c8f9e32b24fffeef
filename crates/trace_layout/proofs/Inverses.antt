-- The theorems of specs/Inverses, each from its law. Assumes nothing.
use mathlib.Core.Path.{◌≡◌, refl, sym, ap, ◌∙◌}
use Prim.Native.Nat.{ℕ, zero, suc, ◌+◌, ◌*◌, ◌^◌, ◌<◌}
use mathlib.Core.List.{List, [], ◌∷◌, ◌++◌}
use native.Mathlib.Omega.{arith}
use lib.ListN.{length, get_or, length-append}
use lib.Seq.{drop_at}
use Rattle.octets.specs.words.Words.{word_at, row_bytes, AllBelow}
use Rattle.octets.proofs.words.Words.{row_of-row_bytes}
use Rattle.octets.proofs.words.Runs.{word_behind, row_number}
use Rattle.trace_layout.specs.Records.{Record, bytes_of, size_in}
use Rattle.trace_layout.specs.Traces.{records_bytes, offsets_from, trailer_of, trace_of, AllLaid, edition_at, offset_at, records_of}
use Rattle.trace_layout.specs.Inverses.{OfRecords, Makes, OfTraces, OfAppending}
use Rattle.trace_layout.proofs.Records.{laid_back, record_back, length-bytes_of, bytes_read, laid_read, sized-read}
use Rattle.trace_layout.proofs.Traces.{good-written, edition-written, read-written, list_written, length-offsets, body_fits}
use Rattle.trace_layout.proofs.Traces.{good_is_written, good_ends, good-count, good_laid}
use Rattle.trace_layout.proofs.Appending.{single}

pub records_inverse : OfRecords
records_inverse = record {
  found = laid_back;
  read = record_back;
  written = bytes_read;
  laid = λ e t bytes laid. (laid_read e t bytes laid, sized-read e t bytes laid);
}

-- ---- the list's entries

offsets_fit : (e at : ℕ) (rs : List Record) → AllLaid e rs → at + length (records_bytes e rs) < 256 ^ 8
    → AllBelow (256 ^ 8) (offsets_from e at rs)
unfolding offsets_from records_bytes AllLaid AllBelow
offsets_fit e at [] h g = tt
offsets_fit e at (r ∷ rs) h g =
    let size = length-bytes_of e r h.0 h.1 [] in
    let fits = simp (length-append, size) at g in
    (omega arith, offsets_fit e (at + size_in e r) rs h.2 (omega arith))

module _ (e : ℕ) (rs : List Record) (m : Makes e rs) (i : ℕ) (few : i < length rs) where
  abbrev body : List ℕ
  body = records_bytes e rs

  abbrev offsets : List ℕ
  offsets = offsets_from e 0 rs

  abbrev trailer : List ℕ
  trailer = trailer_of (length body) (length rs) e

  pub offset_written : offset_at (trace_of e rs) i ≡ get_or offsets i 0
  unfolding trace_of
  offset_written =
      let fits = offsets_fit e 0 rs m.laid (omega (arith, body_fits e rs m.edition m.few m.laid)) in
      ap (λ (k : ℕ). word_at 8 (trace_of e rs) (k + 8 * i)) (list_written e rs m.edition m.few m.laid)
      ∙ word_behind 8 (trace_of e rs) (length body) (8 * i)
      ∙ ap (λ (l : List ℕ). word_at 8 l (8 * i)) (drop_at body (row_bytes 8 offsets ++ trailer) (length body) refl)
      ∙ row_number 8 (length offsets) (row_bytes 8 offsets ++ trailer) i (omega (arith, length-offsets e 0 rs))
      ∙ ap (λ (l : List ℕ). get_or l i 0) (row_of-row_bytes 8 offsets trailer fits)

pub traces_inverse : OfTraces
traces_inverse = record {
  good = λ e rs m. good-written e rs m.edition m.few m.laid;
  edition = λ e rs m. edition-written e rs m.edition m.few m.laid;
  read = λ e rs m. read-written e rs m.edition m.few m.laid;
  offset = offset_written;
  written = good_is_written;
  makes = λ bs bytes good. record {
    edition = (good_ends bs bytes good).edition;
    few = omega (arith, good-count bs bytes good, (good_ends bs bytes good).few);
    laid = good_laid bs bytes good;
  };
  determined = λ bs cs b c g h e r.
      good_is_written bs b g ∙ ap (λ (k : ℕ). trace_of k (records_of bs)) e ∙ ap (trace_of (edition_at cs)) r
      ∙ sym (good_is_written cs c h);
}

-- ---- one record more

offsets_kept : (e at : ℕ) (rs : List Record) (r : Record) (i : ℕ) → i < length rs
    → get_or (offsets_from e at (rs ++ single r)) i 0 ≡ get_or (offsets_from e at rs) i 0
unfolding offsets_from
offsets_kept e at [] r i h = absurd (omega arith)
offsets_kept e at (x ∷ rs) r zero h = refl
offsets_kept e at (x ∷ rs) r (suc i) h = offsets_kept e (at + size_in e x) rs r i (omega arith)

offset_new : (e at : ℕ) (rs : List Record) (r : Record) → AllLaid e rs
    → get_or (offsets_from e at (rs ++ single r)) (length rs) 0 ≡ at + length (records_bytes e rs)
unfolding offsets_from records_bytes AllLaid
offset_new e at [] r h = omega arith
offset_new e at (x ∷ rs) r h =
    let place : at + size_in e x + length (records_bytes e rs) ≡ at + length (bytes_of e x ++ records_bytes e rs) =
    simp (length-append, length-bytes_of e x h.0 h.1 []) (omega arith) in
    offset_new e (at + size_in e x) rs r h.2 ∙ place

pub appending_keeps : OfAppending
appending_keeps = record {
  kept = λ e rs r i h. offsets_kept e 0 rs r i h;
  new = λ e rs r h. offset_new e 0 rs r h ∙ omega arith;
}
