-- What is kept of a good trace makes one, which has room where the old one stood. Assumes nothing.
use mathlib.Core.Path.{◌≡◌, refl, ap, ◌∙◌}
use mathlib.Core.Bool.{true}
use mathlib.Core.List.{List, [], ◌++◌, map}
use Prim.Native.Nat.{ℕ, ◌+◌, ◌*◌, ◌≤◌}
use native.Mathlib.Omega.{arith}
use lib.ListN.{length, take}
use lib.Seq.{take_at}
use Rattle.octets.specs.words.Words.{row_bytes, AllBelow}
use Rattle.trace_layout.specs.Records.{Record, bytes_of}
use Rattle.trace_layout.specs.Traces.{most_records, records_bytes, offsets_from, trailer_of, trace_of, list_at, edition_at, good_trace}
use Rattle.trace_layout.specs.Traces.{records_of}
use Rattle.trace_layout.specs.Inverses.{Makes}
use Rattle.trace_layout.proofs.Traces.{good_ends, good_laid, good-count, good_is_written, list_written}
use Rattle.trace.specs.whole.Whole.{whole_records}
use Rattle.trace.proofs.whole.Longest.{whole_of_records}
use Rattle.trace.proofs.seal.Sealing.{length-trace}
use Rattle.trace_thin.specs.firsts.Pieces.{pieces_at}
use Rattle.trace_thin.specs.firsts.Firsts.{firsts, firsts_in}
use Rattle.trace_thin.proofs.firsts.Thinning.{fewer}
use Rattle.trace_thin.specs.call.Thin.{kept_of, thin_trace}
use Rattle.trace_thin.proofs.firsts.Pieced.{firsts_are, laid_kept, shorter_kept}

module _ (bs : List ℕ) (bytes : AllBelow 256 bs) (good : good_trace bs ≡ true) where
  abbrev e : ℕ
  e = edition_at bs

  abbrev rs : List Record
  rs = records_of bs

  -- the walk over the bytes before the list finds the records
  whole_is : whole_records e (take (list_at bs) bs) ≡ rs
  unfolding trace_of
  whole_is =
      let laid = good_laid bs bytes good in
      let ends = good_ends bs bytes good in
      let few : length rs ≤ most_records = omega (arith, good-count bs bytes good, ends.few) in
      let tail = row_bytes 8 (offsets_from e 0 rs) ++ trailer_of (length (records_bytes e rs)) (length rs) e in
      ap (whole_records e)
      (ap (λ (x : List ℕ). take (list_at x) x) (good_is_written bs bytes good)
      ∙ ap (λ (k : ℕ). take k (trace_of e rs)) (list_written e rs ends.edition few laid)
      ∙ take_at (records_bytes e rs) tail (length (records_bytes e rs)) refl)
      ∙ whole_of_records e rs laid few

  -- the chosen pieces are the kept records' bytes
  pub pieces_kept : pieces_at bs (firsts_in bs (list_at bs) e) ≡ map (bytes_of e) (kept_of bs)
  pieces_kept = firsts_are bs bytes (list_at bs) e ∙ ap (λ (l : List Record). map (bytes_of e) (firsts (bytes_of e) l)) whole_is

  pub fewer_kept : length (kept_of bs) ≤ length rs
  fewer_kept = fewer (bytes_of e) [] rs

  pub few_old : length rs ≤ most_records
  few_old = omega (arith, good-count bs bytes good, (good_ends bs bytes good).few)

  pub makes : Makes e (kept_of bs)
  makes = record {
    edition = (good_ends bs bytes good).edition;
    few = omega (arith, few_old, fewer_kept);
    laid = laid_kept e [] rs (good_laid bs bytes good);
  }

  pub new-length : length (thin_trace bs) ≡ length (records_bytes e (kept_of bs)) + 8 * length (kept_of bs) + 20
  new-length = length-trace e (kept_of bs)

  pub old-length : length bs ≡ length (records_bytes e rs) + 8 * length rs + 20
  old-length = ap length (good_is_written bs bytes good) ∙ length-trace e rs

  pub has_room : length (thin_trace bs) ≤ length bs
  has_room = omega (arith, new-length, old-length, fewer_kept, shorter_kept e [] rs)
