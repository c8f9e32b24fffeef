-- One record more: what is written behind the records, and that the bytes stored in place are the longer trace. Assumes nothing.
use mathlib.Core.Path.{◌≡◌, refl, sym, ap, ◌∙◌}
use Prim.Native.Nat.{ℕ, ◌+◌, ◌≤◌}
use mathlib.Core.List.{List, [], ◌∷◌, ◌++◌, append_assoc, append-nil}
use native.Mathlib.Omega.{arith}
use lib.ListN.{length, take, drop, length-append}
use lib.Seq.{sets, sets-eq, take_at, drop_at}
use Rattle.octets.specs.words.Words.{le, row_bytes}
use Rattle.octets.proofs.words.Stores.{sets_after, sets_before}
use Rattle.trace_layout.specs.Records.{Record, Laid, Sized, bytes_of, size_in}
use Rattle.trace_layout.specs.Traces.{records_bytes, offsets_from, trailer_of, trace_of, AllLaid}
use Rattle.trace_layout.proofs.Records.{length-bytes_of}

-- a list of one record
abbrev pub single : Record → List Record
single r = r ∷ []

pub all_laid_more : (e : ℕ) (rs : List Record) (r : Record) → AllLaid e rs → Laid e r → Sized r → AllLaid e (rs ++ single r)
unfolding AllLaid
all_laid_more e [] r h l g = (l, g, tt)
all_laid_more e (x ∷ rs) r h l g = (h.0, h.1, all_laid_more e rs r h.2 l g)

pub records_more : (e : ℕ) (rs : List Record) (r : Record) → records_bytes e (rs ++ single r) ≡ records_bytes e rs ++ bytes_of e r
unfolding records_bytes
records_more e [] r = append-nil (bytes_of e r)
records_more e (x ∷ rs) r = rw (records_more e rs r, append_assoc (bytes_of e x) (records_bytes e rs) (bytes_of e r))

length_more : (rs : List Record) (r : Record) → length (rs ++ single r) ≡ length rs + 1
length_more rs r = length-append rs (single r)

offsets_more : (e at : ℕ) (rs : List Record) (r : Record) → AllLaid e rs → row_bytes 8 (offsets_from e at (rs ++ single r))
    ≡ row_bytes 8 (offsets_from e at rs) ++ le 8 (at + length (records_bytes e rs))
unfolding offsets_from row_bytes records_bytes AllLaid
offsets_more e at [] r h = let z : at + 0 ≡ at = omega arith in rw (z, append-nil (le 8 at))
offsets_more e at (x ∷ rs) r h =
    let place : at + length (bytes_of e x ++ records_bytes e rs) ≡ at + size_in e x + length (records_bytes e rs) =
    simp (length-append, length-bytes_of e x h.0 h.1 []) (omega arith) in
    rw (
      offsets_more e (at + size_in e x) rs r h.2,
      place,
      append_assoc (le 8 at) (row_bytes 8 (offsets_from e (at + size_in e x) rs))
          (le 8 (at + size_in e x + length (records_bytes e rs))),
    )

-- of the new record only its length matters
module _ (e : ℕ) (rs : List Record) (r : Record) (laid : AllLaid e rs) (sized : length (bytes_of e r) ≡ size_in e r) where
  abbrev body : List ℕ
  body = records_bytes e rs

  abbrev entries : List ℕ
  entries = row_bytes 8 (offsets_from e 0 rs)

  -- the trailer of the longer trace
  abbrev last : List ℕ
  last = trailer_of (length body + size_in e r) (length rs + 1) e

  pub appended : trace_of e (rs ++ single r) ≡ body ++ (bytes_of e r ++ (entries ++ (le 8 (length body) ++ last)))
  unfolding trace_of
  appended =
      let start : 0 + length body ≡ length body = omega arith in
      let size : length (body ++ bytes_of e r) ≡ length body + size_in e r = simp (length-append, sized) in
      rw (
        records_more e rs r,
        offsets_more e 0 rs r laid,
        length_more rs r,
        size,
        start,
        append_assoc body (bytes_of e r),
        append_assoc entries (le 8 (length body)) last,
      )

  -- what is written from the list's place on
  abbrev added : List ℕ
  added = bytes_of e r ++ (entries ++ (le 8 (length body) ++ last))

  -- a slice that begins with the trace
  module _ (tail : List ℕ) where
    abbrev bs : List ℕ
    bs = body ++ (entries ++ tail)

    old_entries : take (length entries) (drop (length body) bs) ≡ entries
    old_entries = rw (drop_at body (entries ++ tail) (length body) refl) (take_at entries tail (length entries) refl)

    -- the list is moved up, the record put in its old place, and behind the list the new entry
    -- and the trailer: the bytes are the longer trace, and those behind it stay
    pub stored : length body + length added ≤ length bs
        → sets (sets (sets bs (length body + length (bytes_of e r)) (take (length entries) (drop (length body) bs))) (length body)
        (bytes_of e r)) (length body + length (bytes_of e r ++ entries)) (le 8 (length body) ++ last)
        ≡ trace_of e (rs ++ single r) ++ drop (length (trace_of e (rs ++ single r))) bs
    stored room =
        let list = length body in
        let size : length (trace_of e (rs ++ single r)) ≡ list + length added = ap length appended ∙ length-append body added in
        rw (
          old_entries,
          sets_before (bytes_of e r) entries bs list,
          sets_after (bytes_of e r ++ entries) (le 8 list ++ last) bs list,
          append_assoc (bytes_of e r) entries (le 8 list ++ last),
          size,
        )
        (sets-eq added bs list room ∙ ap (λ (x : List ℕ). (x ++ added) ++ drop (list + length added) bs)
        (take_at body (entries ++ tail) list refl)
        ∙ ap (λ (x : List ℕ). x ++ drop (list + length added) bs) (sym appended))
