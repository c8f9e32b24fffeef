-- From the judging, the choice of the edition and the walk to the answer. Assumes nothing.
use mathlib.Core.Path.{◌≡◌, refl, sym, ap, ◌∙◌}
use mathlib.Core.Bool.{Bool, true, false, cond, not}
use mathlib.Core.List.{List}
use Prim.Native.Nat.{ℕ, ◌+◌, ◌*◌, ◌-◌, ◌≤◌}
use native.Mathlib.Omega.{arith}
use lib.Dec.{eqb, ltb}
use lib.ListN.{length, take}
use lib.Seq.{sets}
use borrow.Author.Tests.{ltb-false}
use Rattle.cone.specs.table.Table.{trace_row}
use Rattle.cone.proofs.table.Settled.{refused, through, trace_row-off}
use Rattle.octets.specs.words.Words.{AllBelow}
use Rattle.octets.proofs.words.Stores.{sets_first, cut-is}
use Rattle.trace.specs.declared.judge.Judged.{Judged}
use Rattle.trace.specs.judge.Opening.{open_of}
use Rattle.trace_layout.specs.Traces.{most_records, known, records_bytes, offsets_from, good_trace}
use Rattle.trace_layout.proofs.Traces.{length-offsets}
use Rattle.trace.specs.seal.Seal.{seal_of}
use Rattle.trace.proofs.seal.Sealing.{put_and_sealed}
use Rattle.trace.specs.declared.whole.Walked.{Walked}
use Rattle.trace.specs.whole.Whole.{whole_records, walked_of}
use Rattle.trace.proofs.whole.Whole.{whole_few, whole_prefix}
use Rattle.trace_rescue.specs.call.Rescue.{edition_for, kept_of, saved_of, dropped_of, Saved, refuse, leave, rescue_of}
use Rattle.trace_rescue.proofs.call.Saving.{own_edition, end_inside, saved_length, same_bytes, nothing_dropped, rest_dropped}

right_by : (bs : List ℕ) (b : Bool) → good_trace bs ≡ b → eqb (open_of bs).code 0 ≡ good_trace bs
unfolding open_of
right_by bs true g = rw g
right_by bs false g = rw g

module _ (bs : List ℕ) (bytes : AllBelow 256 bs) (o : Judged) (judged : o ≡ open_of bs) (given e : ℕ) (chosen : e ≡ edition_for bs given)
    (w : Walked) (told : w ≡ walked_of e bs) where
  abbrev end : ℕ
  end = length (records_bytes e (kept_of e bs))

  abbrev n : ℕ
  n = w.end + 8 * w.count + 20

  right_is : eqb o.code 0 ≡ good_trace bs
  right_is = ap (λ (x : Judged). eqb x.code 0) judged ∙ right_by bs (good_trace bs) refl

  count-is : w.count ≡ length (kept_of e bs)
  unfolding walked_of
  count-is = ap (λ (x : Walked). x.count) told

  end_is : w.end ≡ end
  unfolding walked_of
  end_is = ap (λ (x : Walked). x.end) told

  pub few : w.count ≤ most_records
  few = omega (arith, count-is, whole_few e most_records bs)

  pub inside : w.end ≤ length bs
  inside = omega (arith, end_is, end_inside e bs bytes)

  length-is : n ≡ length (saved_of e bs)
  length-is = omega (arith, count-is, end_is, saved_length e bs bytes)

  taken-by : (b : Bool) → good_trace bs ≡ b → (cond b n w.end ≤ length bs) × (length bs - cond b n w.end ≡ dropped_of e bs)
  taken-by true g =
      let own = chosen ∙ own_edition bs given bytes g in
      let all : n ≡ length bs = length-is ∙ ap length (same_bytes e bs bytes g own) in
      (omega arith, omega (arith, nothing_dropped e bs bytes g own))
  taken-by false g = (inside, omega (arith, end_is, rest_dropped e bs bytes g))

  module _ (used : ℕ) (is : used ≡ cond (eqb o.code 0) n w.end) where
    used_is : used ≡ cond (good_trace bs) n w.end
    used_is = is ∙ ap (λ (b : Bool). cond b n w.end) right_is

    pub taken_inside : used ≤ length bs
    taken_inside = rw used_is (taken-by (good_trace bs) refl).0

    dropped_is : length bs - used ≡ dropped_of e bs
    dropped_is = rw used_is (taken-by (good_trace bs) refl).1

  -- ---- the rows

  module _ (old : List ℕ) (k : Bool) (knows : k ≡ known e) (code : ℕ) (row : code ≡ trace_row (not k) (ltb (length old) n)) where
    rows : code ≡ trace_row (not (known e)) (ltb (length old) (length (saved_of e bs)))
    rows = row ∙ rw (knows, length-is)

    pub refused-row : (code ≡ 0 → ⊥) → refuse old code ≡ rescue_of bs old given
    unfolding rescue_of
    refused-row off = rw (sym chosen) (refused _ code (leave e bs old) (refuse old) rows off)

    module _ (on : code ≡ 0) where
      pub room : n ≤ length old
      room = ltb-false (length old) n (trace_row-off (not k) (ltb (length old) n) (sym row ∙ on)).1

      -- the records copied, list and trailer behind them
      module _ (used : ℕ) (is : used ≡ cond (eqb o.code 0) n w.end) (starts₀ starts copied out : List ℕ)
          (places : length starts₀ ≡ most_records) (listed : starts ≡ sets starts₀ 0 (offsets_from e 0 (whole_records e bs)))
          (first : copied ≡ sets old 0 (take w.end bs))
          (second : out ≡ sets copied w.end (seal_of e w.end (take w.count starts))) where
        cut : take w.count starts ≡ offsets_from e 0 (kept_of e bs)
        cut =
            let many : length (offsets_from e 0 (kept_of e bs)) ≡ length (kept_of e bs) = length-offsets e 0 (kept_of e bs) in
            cut-is starts₀ (offsets_from e 0 (kept_of e bs)) starts w.count listed (count-is ∙ sym many)
            (omega (arith, many, places, whole_few e most_records bs))

        records : take w.end bs ≡ records_bytes e (kept_of e bs)
        records = ap (λ (k : ℕ). take k bs) end_is ∙ sym (whole_prefix e most_records bs bytes)

        written : out ≡ sets old 0 (saved_of e bs)
        written =
            put_and_sealed e (kept_of e bs) old copied out (first ∙ ap (sets old 0) records)
            (second ∙ ap (λ (k : ℕ). sets copied k (seal_of e k (take w.count starts))) end_is
            ∙ ap (λ (x : List ℕ). sets copied end (seal_of e end x)) cut)

        report : ◌≡◌ {A = Saved}
            (record {
              answer = record { code = 0; kept = w.count; dropped = length bs - used; length = n; right = eqb o.code 0 };
              output = out;
            })
            (leave e bs old)
        report =
            let fits : length (saved_of e bs) ≤ length old = omega (arith, length-is, room) in
            rw (dropped_is used is, length-is, right_is, written, sets_first (saved_of e bs) old fits, count-is)

        pub done : ◌≡◌ {A = Saved}
            (record {
              answer = record { code = 0; kept = w.count; dropped = length bs - used; length = n; right = eqb o.code 0 };
              output = out;
            })
            (rescue_of bs old given)
        unfolding rescue_of
        done = rw (sym chosen) (through _ code (leave e bs old) (refuse old) rows on report)
