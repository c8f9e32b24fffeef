-- A good trace that is cut at a byte: the bytes of the records that end at or before it, and then what is no record, since a cut record
-- says a length that is not there, and list and trailer begin with zeros. Assumes nothing.
use Prim.Native.Nat.{ℕ, zero, suc, ◌+◌, ◌-◌, ◌≤◌, ◌<◌}
use mathlib.Core.Path.{◌≡◌, refl, sym, ap, ◌∙◌}
use mathlib.Core.Bool.{Bool, true, false, not}
use mathlib.Core.List.{List, [], ◌∷◌, ◌++◌, append_assoc, append-nil}
use native.Mathlib.Omega.{arith}
use lib.Dec.{leb, ltb}
use lib.ListN.{length, take, drop, length-take}
use lib.Seq.{take-take, take-append-add, take_at}
use borrow.Author.Tests.{leb-true, leb-false, lt-leb, ltb-false, not-false}
use Rattle.cone.proofs.table.Settled.{trace_row-off}
use Rattle.call_search.proofs.single.Demand3.{let_through}
use Rattle.octets.specs.words.Words.{le, spelled, word_at, row_bytes, AllBelow}
use Rattle.octets.specs.words.Runs.{runs_bytes}
use Rattle.octets.proofs.words.Words.{below-take}
use Rattle.trace_layout.specs.Records.{Record, Laid, Sized, bytes_of, size_in, size_at, laid_at, kind_at, dim1_at, dim2_at, flag_at}
use Rattle.trace_layout.specs.Traces.{most_records, records_bytes, offsets_from, trailer_of, trace_of, known, AllLaid, edition_at, good_trace}
use Rattle.trace_layout.specs.Traces.{records_of}
use Rattle.trace_layout.proofs.Records.{found, size_back, laid_back, length-bytes_of, size-least}
use Rattle.trace_layout.proofs.Traces.{good_ends, good_laid, good-count, good_is_written, edition-written, read-written}
use Rattle.trace.specs.whole.Whole.{whole_in, whole_records}
use Rattle.trace.proofs.whole.Whole.{no_more, whole_written}
use Rattle.trace_rescue.specs.call.Rescue.{Saved, kept_of, saved_of, edition_for, leave, refuse, rescue_of}
use Rattle.trace_rescue.specs.call.Rescues.{trace_in}
use Rattle.trace_rescue.proofs.call.Saving.{makes}
use Rattle.trace_rescue.proofs.call.Rescues.{room_rescued, rescues}
use Rattle.promises.specs.cut_traces.Cuts.{ending_by, KeptOfCut, CutAnywhere}

-- ---- a record that is cut

-- what stands before the cut is what stood there
before_cut : (n p j : ℕ) (t : List ℕ) → p + n ≤ j → take n (drop p (take j t)) ≡ take n (drop p t)
before_cut n zero j t h = take-take n j t (omega arith)
before_cut n (suc p) zero t h = absurd (omega arith)
before_cut n (suc p) (suc j) [] h = refl
before_cut n (suc p) (suc j) (x ∷ t) h = before_cut n p j t (omega arith)

word_before : (n p j : ℕ) (t : List ℕ) → p + n ≤ j → word_at n (take j t) p ≡ word_at n t p
unfolding word_at
word_before n p j t h = ap spelled (before_cut n p j t h)

module _ (e : ℕ) (r : Record) (laid : Laid e r) (sized : Sized r) (rest : List ℕ) (j : ℕ) (short : j < size_in e r) where
  abbrev whole : List ℕ
  whole = bytes_of e r ++ rest

  no_cut : laid_at e (take j whole) ≡ true → ⊥
  no_cut h =
      let f = found e (take j whole) h in
      let g = found e whole (laid_back e r laid sized rest) in
      let least = size-least e (kind_at (take j whole)) (dim1_at (take j whole)) (dim2_at (take j whole)) (flag_at e (take j whole)) in
      let room : size_at e (take j whole) ≤ j = omega (arith, f.room, length-take j whole) in
      omega (arith, f.size, word_before 4 4 j whole (omega (arith, least)), g.size, size_back e r laid sized rest)

  cut_by : (b : Bool) → laid_at e (take j whole) ≡ b → laid_at e (take j whole) ≡ false
  cut_by true h = absurd (no_cut h)
  cut_by false h = h

  cut_record : laid_at e (take j whole) ≡ false
  cut_record = cut_by (laid_at e (take j whole)) refl

-- ---- list and trailer

abbrev tail_of : ℕ → List Record → List ℕ
tail_of e rs = row_bytes 8 (offsets_from e 0 rs) ++ trailer_of (length (records_bytes e rs)) (length rs) e

-- bytes that begin with four zeros, wherever they are cut
zeros-cut : (j : ℕ) (t : List ℕ) → word_at 4 (take j (0 ∷ 0 ∷ 0 ∷ 0 ∷ t)) 0 ≡ 0
unfolding word_at spelled
zeros-cut zero t = refl
zeros-cut (suc zero) t = refl
zeros-cut (suc (suc zero)) t = refl
zeros-cut (suc (suc (suc zero))) t = refl
zeros-cut (suc (suc (suc (suc j)))) t = refl

-- they begin with the offset 0: of the first record, or of the list
tail_cut : (e : ℕ) (rs : List Record) (j : ℕ) → word_at 4 (take j (tail_of e rs)) 0 ≡ 0
unfolding offsets_from row_bytes trailer_of runs_bytes records_bytes le
tail_cut e [] j = zeros-cut j _
tail_cut e (r ∷ rs) j = zeros-cut j _

no_mark : (e : ℕ) (t : List ℕ) → word_at 4 t 0 ≡ 0 → (b : Bool) → laid_at e t ≡ b → laid_at e t ≡ false
no_mark e t z true h = absurd (omega (arith, (found e t h).mark, z))
no_mark e t z false h = h

-- ---- the cut bytes, part by part

none_ending : (e k at : ℕ) (rs : List Record) → k < at → ending_by e k at rs ≡ []
unfolding ending_by
none_ending e k at [] h = refl
none_ending e k at (r ∷ rs) h = rw (lt-leb (at + size_in e r) k (omega arith)) (none_ending e k (at + size_in e r) rs (omega arith))

module _ (e : ℕ) (tail : List ℕ) (no_tail : (j : ℕ) → laid_at e (take j tail) ≡ false) where
  record Split (k at : ℕ) (rs : List Record) : Type 0 where
    pub rest : List ℕ
    pub bytes : take (k - at) (records_bytes e rs ++ tail) ≡ records_bytes e (ending_by e k at rs) ++ rest
    pub no_record : laid_at e rest ≡ false
    pub laid : AllLaid e (ending_by e k at rs)
    pub few : length (ending_by e k at rs) ≤ length rs

  none_left : (k at : ℕ) → Split k at []
  unfolding ending_by records_bytes AllLaid
  none_left k at = record { rest = take (k - at) tail; bytes = refl; no_record = no_tail (k - at); laid = tt; few = omega arith }

  module _ (k at : ℕ) (r : Record) (rs : List Record) (h : at ≤ k) (l : Laid e r) (s : Sized r) where
    abbrev end : ℕ
    end = at + size_in e r

    -- one that ends at or before the cut is whole
    kept : leb end k ≡ true → Split k end rs → Split k at (r ∷ rs)
    unfolding ending_by records_bytes AllLaid
    kept on later =
        let behind = records_bytes e rs ++ tail in
        let size = length-bytes_of e r l s [] in
        let more : k - at ≡ length (bytes_of e r) + (k - end) = omega (arith, leb-true end k on, size) in
        record {
          rest = later.rest;
          bytes = rw (
            on,
            append_assoc (bytes_of e r) (records_bytes e rs) tail,
            more,
            take-append-add (bytes_of e r) behind (k - end),
            later.bytes,
          )
              (sym (append_assoc (bytes_of e r) (records_bytes e (ending_by e k end rs)) later.rest));
          no_record = later.no_record;
          laid = rw on (l, s, later.laid);
          few = rw on (omega (arith, later.few));
        }

    -- the first that does not is cut, and those behind it are gone
    lost : leb end k ≡ false → Split k at (r ∷ rs)
    unfolding ending_by records_bytes AllLaid
    lost off =
        let gone = none_ending e k end rs (leb-false end k off) in
        record {
          rest = take (k - at) (bytes_of e r ++ (records_bytes e rs ++ tail));
          bytes = rw (off, gone, append_assoc (bytes_of e r) (records_bytes e rs) tail);
          no_record = cut_record e r l s (records_bytes e rs ++ tail) (k - at) (omega (arith, leb-false end k off));
          laid = rw (off, gone) tt;
          few = rw (off, gone) (omega arith);
        }

    one_record : (b : Bool) → leb end k ≡ b → (end ≤ k → Split k end rs) → Split k at (r ∷ rs)
    one_record true on later = kept on (later (leb-true end k on))
    one_record false off later = lost off

  split : (k at : ℕ) (rs : List Record) → at ≤ k → AllLaid e rs → Split k at rs
  unfolding AllLaid
  split k at [] h l = none_left k at
  split k at (r ∷ rs) h l =
      one_record k at r rs h l.0 l.1 (leb (at + size_in e r) k) refl (λ g. split k (at + size_in e r) rs g l.2)

-- so the walk over them finds those records
walk_cut : (e : ℕ) (rs : List Record) (k : ℕ) → AllLaid e rs → length rs ≤ most_records
    → whole_records e (take k (trace_of e rs)) ≡ ending_by e k 0 rs
unfolding trace_of
walk_cut e rs k laid few =
    let tail = tail_of e rs in
    let no_tail : (j : ℕ) → laid_at e (take j tail) ≡ false = λ j. no_mark e (take j tail) (tail_cut e rs j) (laid_at e (take j tail)) refl in
    let s = split e tail no_tail k 0 rs (omega arith) laid in
    let kept = ending_by e k 0 rs in
    let all : k ≡ k - 0 = omega arith in
    ap (λ (j : ℕ). whole_in e most_records (take j (records_bytes e rs ++ tail))) all
    ∙ ap (whole_in e most_records) s.bytes
    ∙ whole_written e most_records kept s.rest s.laid (omega (arith, s.few))
    ∙ ap (λ (x : List Record). kept ++ x) (no_more e (most_records - length kept) s.rest s.no_record)
    ∙ append-nil kept

module _ (bs : List ℕ) (bytes : AllBelow 256 bs) (good : good_trace bs ≡ true) where
  cut_kept : (k : ℕ) → whole_records (edition_at bs) (take k bs) ≡ ending_by (edition_at bs) k 0 (records_of bs)
  cut_kept k =
      ap (λ (x : List ℕ). whole_records (edition_at bs) (take k x)) (good_is_written bs bytes good)
      ∙ walk_cut (edition_at bs) (records_of bs) k (good_laid bs bytes good)
      (omega (arith, good-count bs bytes good, (good_ends bs bytes good).few))

-- a done rescue has at its front the trace of the records that it walked over, in the edition that it read them by
module _ (bs old : List ℕ) (given : ℕ) (bytes : AllBelow 256 bs) (on : (rescue_of bs old given).answer.code ≡ 0) where
  abbrev own : ℕ
  own = edition_for bs given

  rows-off : (not (known own) ≡ false) × (ltb (length old) (length (saved_of own bs)) ≡ false)
  unfolding rescue_of
  rows-off =
      trace_row-off _ _ (let_through (λ (s : Saved). s.answer.code) (leave own bs old) (refuse old) (λ k. refl) _ on)

  trace-is : trace_in (rescue_of bs old given) ≡ saved_of own bs
  trace-is =
      ap trace_in (room_rescued bs old given own refl (not-false _ rows-off.0) (ltb-false _ _ rows-off.1))
      ∙ take_at (saved_of own bs) (drop (length (saved_of own bs)) old) (length (saved_of own bs)) refl

  pub left-walked : (edition_at (trace_in (rescue_of bs old given)) ≡ own) × (records_of (trace_in (rescue_of bs old given)) ≡ whole_records own bs)
  left-walked =
      let m = makes own bs bytes (not-false _ rows-off.0) in (
        ap edition_at trace-is ∙ edition-written own (kept_of own bs) m.edition m.few m.laid,
        ap records_of trace-is ∙ read-written own (kept_of own bs) m.edition m.few m.laid,
      )

-- a rescue of the cut bytes by the trace's own edition, if it is done
module _ (bs old : List ℕ) (k given : ℕ) (bytes : AllBelow 256 bs) (good : good_trace bs ≡ true)
    (edition : edition_for (take k bs) given ≡ edition_at bs) where
  pub kept_of-cut : (rescue_of (take k bs) old given).answer.code ≡ 0 → KeptOfCut bs k (rescue_of (take k bs) old given)
  kept_of-cut on =
      let below = below-take 256 k bs bytes in
      let d = rescues.done (take k bs) old given below on in
      let left = left-walked (take k bs) old given below on in
      let records = left.1 ∙ ap (λ (e : ℕ). whole_records e (take k bs)) edition ∙ cut_kept bs bytes good k in
      record { done = on; good = d.good; edition = left.0 ∙ edition; records = records; told = d.kept ∙ ap length records }

pub cut_anywhere : CutAnywhere
cut_anywhere bs old k given bytes good edition room =
    let e = edition_for (take k bs) given in
    let saved : saved_of e (take k bs) ≡ trace_of (edition_at bs) (ending_by (edition_at bs) k 0 (records_of bs)) =
    ap (λ (i : ℕ). saved_of i (take k bs)) edition ∙ ap (trace_of (edition_at bs)) (cut_kept bs bytes good k) in
    let is_known : known e ≡ true = ap known edition ∙ (good_ends bs bytes good).edition in
    let on = rescues.long (take k bs) old given is_known (omega (arith, ap length saved, room)) in
    kept_of-cut bs old k given bytes good edition on
