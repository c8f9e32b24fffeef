-- A slice that begins with a good trace: how long the trace with one record more is, and how it is stored in the slice. Assumes nothing.
use mathlib.Core.Path.{◌≡◌, sym, ap, ◌∙◌}
use Prim.Native.Nat.{ℕ, ◌+◌, ◌*◌, ◌≤◌}
use mathlib.Core.Bool.{true}
use mathlib.Core.List.{List, ◌++◌, append_assoc}
use native.Mathlib.Omega.{arith}
use lib.ListN.{length, take, drop, length-append, take-append-drop}
use lib.Seq.{sets, length-take-le}
use Rattle.octets.specs.words.Words.{le, row_bytes, AllBelow}
use Rattle.octets.proofs.words.Words.{length-le, length-row_bytes, below-take}
use Rattle.trace_layout.specs.Records.{Record, bytes_of, size_in}
use Rattle.trace_layout.specs.Traces.{most_records, records_bytes, offsets_from, trailer_of, trace_of, list_at, count_at, edition_at}
use Rattle.trace_layout.specs.Traces.{good_trace, records_of, AllLaid}
use Rattle.trace_layout.proofs.Traces.{Ends, good_ends, good_laid, good-count, good_is_written, list_written, length-offsets}
use Rattle.trace_layout.proofs.Traces.{length_trailer}
use Rattle.trace_layout.proofs.Appending.{single, appended, stored}

-- the pieces of the longer trace, in numbers
pieces : (b r n l c : List ℕ) → length (b ++ (r ++ (n ++ (l ++ c)))) ≡ length b + (length r + (length n + (length l + length c)))
pieces b r n l c = simp length-append

module _ (bs : List ℕ) (used : ℕ) (bytes : AllBelow 256 bs) (inside : used ≤ length bs) (good : good_trace (take used bs) ≡ true) where
  abbrev old : List ℕ
  old = take used bs

  abbrev e : ℕ
  e = edition_at old

  abbrev rs : List Record
  rs = records_of old

  abbrev list : ℕ
  list = list_at old

  abbrev n : ℕ
  n = count_at old

  abbrev old_bytes : AllBelow 256 old
  old_bytes = below-take 256 used bs bytes

  pub old_ends : Ends old
  old_ends = good_ends old old_bytes good

  pub old_laid : AllLaid e rs
  old_laid = good_laid old old_bytes good

  pub old-count : length rs ≡ n
  old-count = good-count old old_bytes good

  pub old_few : length rs ≤ most_records
  old_few = rw old-count old_ends.few

  pub old-length : list + 8 * n + 20 ≡ used
  old-length = old_ends.list ∙ length-take-le used bs inside

  pub old_is_written : old ≡ trace_of e rs
  old_is_written = good_is_written old old_bytes good

  abbrev body : List ℕ
  body = records_bytes e rs

  abbrev entries : List ℕ
  entries = row_bytes 8 (offsets_from e 0 rs)

  abbrev tail : List ℕ
  tail = trailer_of (length body) (length rs) e ++ drop used bs

  body_length : length body ≡ list
  body_length = sym (ap list_at old_is_written ∙ list_written e rs old_ends.edition old_few old_laid)

  entries_length : length entries ≡ 8 * n
  entries_length = rw (length-row_bytes 8 (offsets_from e 0 rs), length-offsets e 0 rs, old-count)

  begins : body ++ (entries ++ tail) ≡ bs
  unfolding trace_of
  begins =
      let C = trailer_of (length body) (length rs) e in
      sym (append_assoc body (entries ++ C) (drop used bs) ∙ ap (λ (l : List ℕ). body ++ l) (append_assoc entries C (drop used bs)))
      ∙ ap (λ (l : List ℕ). l ++ drop used bs) (sym old_is_written)
      ∙ take-append-drop used bs

  module _ (r : Record) (sized : length (bytes_of e r) ≡ size_in e r) where
    abbrev grown : List ℕ
    grown = trace_of e (rs ++ single r)

    pub grown-length : length grown ≡ used + size_in e r + 8
    grown-length =
        let last = trailer_of (length body + size_in e r) (length rs + 1) e in
        ap length (appended e rs r old_laid sized) ∙ pieces body (bytes_of e r) entries (le 8 (length body)) last
        ∙ omega (
          arith,
          body_length,
          sized,
          entries_length,
          length-le 8 (length body),
          length_trailer (length body + size_in e r) (length rs + 1) e,
          old-length,
        )

    -- the list is moved up, the record put in its old place, its entry and the trailer behind the list
    pub grown-stored : used + size_in e r + 8 ≤ length bs
        → sets (sets (sets bs (list + size_in e r) (take (8 * n) (drop list bs))) list (bytes_of e r)) (list + size_in e r + 8 * n)
        (le 8 list ++ trailer_of (list + size_in e r) (n + 1) e)
        ≡ grown ++ drop (length grown) bs
    grown-stored room =
        let last = trailer_of (length body + size_in e r) (length rs + 1) e in
        let new = bytes_of e r ++ (entries ++ (le 8 (length body) ++ last)) in
        let size : length body + length new ≤ length (body ++ (entries ++ tail)) =
        omega (
          arith,
          ap length begins,
          length-append (bytes_of e r) (entries ++ (le 8 (length body) ++ last)),
          length-append entries (le 8 (length body) ++ last),
          length-append (le 8 (length body)) last,
          body_length,
          sized,
          entries_length,
          length-le 8 (length body),
          length_trailer (length body + size_in e r) (length rs + 1) e,
          old-length,
        ) in
        let place : length body + length (bytes_of e r ++ entries) ≡ list + size_in e r + 8 * n =
        omega (arith, length-append (bytes_of e r) entries, body_length, sized, entries_length) in
        rw (place, begins, sized, entries_length, body_length, old-count) at (stored e rs r old_laid sized tail size)
