-- Record i of a trace that was judged: it stands where the list's entry i says. Assumes nothing.
use mathlib.Core.Path.{◌≡◌, refl, sym, ap, ◌∙◌}
use mathlib.Core.Bool.{Bool, true, false}
use mathlib.Core.List.{List, []}
use Prim.Native.Nat.{ℕ, ◌+◌, ◌*◌, ◌<◌, ◌≤◌}
use native.Mathlib.Omega.{arith}
use lib.ListN.{length, take, drop, length-take}
use borrow.Author.Tests.{lt-ltb, le-ltb}
use Rattle.arith.proofs.Branches.{and_left, false_not_true}
use Rattle.octets.specs.words.Words.{word_at}
use Rattle.trace_layout.specs.declared.pieces.Shape.{Shape}
use Rattle.trace.specs.declared.judge.Judged.{Judged}
use Rattle.std.specs.Prelude.{Some, None}
use Rattle.trace_layout.specs.Records.{laid_at, record_at}
use Rattle.trace_layout.specs.Traces.{list_at, count_at, edition_at, offset_at, trailer_ok, walks, good_trace}
use Rattle.trace.specs.judge.Opening.{open_of}
use Rattle.trace_layout.specs.pieces.Shapes.{shape_at}
use Rattle.trace.specs.reader.Reading.{found_from}
use Rattle.trace_layout.proofs.Traces.{ends}
use Rattle.trace_layout.proofs.pieces.Shapes.{record_is_laid, none_is_not}
use Rattle.trace_layout.proofs.Records.{laid_inside}
use Rattle.trace_layout.proofs.Entries.{entry_laid, entry_read}
use Rattle.trace.specs.value.Recorded.{recorded_of, refused_record, recorded_in}

judged-none : (bs : List ℕ) (i : ℕ) (g : Bool) → good_trace bs ≡ g → (open_of bs).count ≤ i → refused_record 9 ≡ recorded_in bs i
unfolding open_of recorded_in
judged-none bs i false g h = rw g
judged-none bs i true g h = let few : count_at bs ≤ i = simp g at h in rw (g, le-ltb i (count_at bs) few)

judged-good : (bs : List ℕ) (i : ℕ) (g : Bool) → good_trace bs ≡ g → i < (open_of bs).count → good_trace bs ≡ true
unfolding open_of
judged-good bs i true g h = g
judged-good bs i false g h = let none : i < 0 = simp g at h in absurd (omega arith)

module _ (bs : List ℕ) (i : ℕ) (o : Judged) (is : o ≡ open_of bs) where
  pub no_such : o.count ≤ i → refused_record 9 ≡ recorded_in bs i
  no_such h = judged-none bs i (good_trace bs) refl (rw is at h)

  module _ (few : i < o.count) where
    good : good_trace bs ≡ true
    good = judged-good bs i (good_trace bs) refl (rw is at few)

    whole : o ≡ record { code = 0; edition = edition_at bs; count = count_at bs; list = list_at bs }
    unfolding open_of
    whole = is ∙ rw good

    pub edition-is : o.edition ≡ edition_at bs
    edition-is = ap (λ (x : Judged). x.edition) whole

    pub list_is : o.list ≡ list_at bs
    list_is = ap (λ (x : Judged). x.list) whole

    count-is : o.count ≡ count_at bs
    count-is = ap (λ (x : Judged). x.count) whole

    within : i < count_at bs
    within = omega (arith, count-is)

    -- the entry lies in the trace
    pub entry_inside : o.list + 8 * i + 28 ≤ length bs
    unfolding good_trace
    entry_inside =
        let e = ends bs (and_left (trailer_ok bs) (walks (edition_at bs) (count_at bs) 0 (take (list_at bs) bs) (drop
        (list_at bs) bs)) good) in
        omega (arith, e.list, list_is, within)

    module _ (at : ℕ) (entry : at ≡ word_at 8 bs (o.list + 8 * i)) where
      at-is : at ≡ offset_at bs i
      at-is = entry ∙ ap (λ (k : ℕ). word_at 8 bs (k + 8 * i)) list_is

      -- the records' bytes, and those from the entry on
      module _ (body : List ℕ) (is_IsBody : body ≡ take o.list bs) where
        body_is : body ≡ take (list_at bs) bs
        body_is = is_IsBody ∙ ap (λ (k : ℕ). take k bs) list_is

        stands : laid_at o.edition (drop at body) ≡ true
        stands = rw (edition-is, body_is, at-is) (entry_laid bs good (record_at (edition_at bs) []) i within)

        pub never_none : found_from body at o.edition ≡ None → ⊥
        never_none h = false_not_true (sym (none_is_not o.edition (drop at body) h) ∙ stands)

        -- it ends in the trace
        pub found_inside : (shape : Shape) → found_from body at o.edition ≡ Some shape → at + shape.size ≤ length bs
        unfolding shape_at
        found_inside shape h =
            omega (
              arith,
              ap (λ (x : Shape). x.size) (record_is_laid o.edition (drop at body) shape h).1,
              laid_inside o.edition at body stands,
              ap length is_IsBody,
              length-take o.list bs,
            )

        module _ (t : List ℕ) (part : t ≡ drop at body) where
          pub numbered : recorded_of o.edition at (record_at o.edition t) ≡ recorded_in bs i
          unfolding recorded_in
          numbered =
              let part-is : t ≡ drop at (take (list_at bs) bs) = part ∙ ap (drop at) body_is in
              rw (
                good,
                lt-ltb i (count_at bs) within,
                edition-is,
                part-is,
                at-is,
                entry_read bs good (record_at
                    (edition_at bs) []) i within,
              )
