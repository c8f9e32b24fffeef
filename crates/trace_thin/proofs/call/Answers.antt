-- From the judging and the choice to the answer, in both forms. Assumes nothing.
use mathlib.Core.Path.{◌≡◌, refl, sym, ap, ◌∙◌}
use mathlib.Core.Bool.{Bool, true, false, not}
use mathlib.Core.List.{List, [], ◌++◌, map, append-nil}
use Prim.Native.Nat.{ℕ, ◌+◌, ◌*◌, ◌-◌, ◌≤◌}
use native.Mathlib.Omega.{arith}
use lib.Dec.{eqb, ltb}
use lib.ListN.{length, take, replicate, length-append, length-map, length-replicate, drop_of_length-le}
use lib.Seq.{sets, length-sets}
use borrow.Author.Tests.{ltb-false, not-false}
use Rattle.cone.specs.table.Table.{trace_row}
use Rattle.cone.proofs.table.Settled.{refused, through, trace_row-off}
use Rattle.octets.specs.words.Words.{AllBelow}
use Rattle.octets.proofs.words.Stores.{wrote_after, sets_first, cut-is}
use Rattle.trace.specs.declared.judge.Judged.{Judged}
use Rattle.trace.specs.judge.Opening.{open_of}
use Rattle.trace_layout.specs.Records.{Record, bytes_of}
use Rattle.trace_layout.specs.Traces.{most_records, records_bytes, offsets_from, count_at, edition_at, list_at, good_trace, records_of}
use Rattle.trace_layout.proofs.Traces.{length-offsets, good-count}
use Rattle.trace.specs.whole.Whole.{whole_records}
use Rattle.trace.specs.seal.Seal.{seal_of}
use Rattle.trace.proofs.seal.Sealing.{put_and_sealed}
use Rattle.trace_thin.specs.declared.firsts.Chosen.{Chosen}
use Rattle.trace_thin.specs.firsts.Pieces.{piece_at, pieces_at, joined, offsets, Ahead}
use Rattle.trace_thin.specs.firsts.Firsts.{firsts_in, starts_in, chosen_of}
use Rattle.trace_thin.specs.call.Thin.{kept_of, thin_trace, Left, refuse, apart, within, thin_of, thin_in_place_of}
use Rattle.trace_thin.proofs.firsts.Thinning.{fewer}
use Rattle.trace_thin.proofs.firsts.Pieced.{joined_records, offsets_records, few_records, firsts_inside, firsts-ahead}
use Rattle.trace_thin.proofs.call.Keeping.{pieces_kept, fewer_kept, makes, new-length, has_room}

-- ---- the judging

opened_good : (bs : List ℕ) → good_trace bs ≡ true
    → open_of bs ≡ record { code = 0; edition = edition_at bs; count = count_at bs; list = list_at bs }
unfolding open_of
opened_good bs g = rw g

opened_bad : (bs : List ℕ) → good_trace bs ≡ false → open_of bs ≡ record { code = 9; edition = 0; count = 0; list = 0 }
unfolding open_of
opened_bad bs g = rw g

module _ (bs : List ℕ) (bytes : AllBelow 256 bs) (o : Judged) (judged : o ≡ open_of bs) where
  code_by : (g : Bool) → good_trace bs ≡ g → eqb o.code 0 ≡ g
  code_by true g = ap (λ (x : Judged). eqb x.code 0) (judged ∙ opened_good bs g)
  code_by false g = ap (λ (x : Judged). eqb x.code 0) (judged ∙ opened_bad bs g)

  code_is : eqb o.code 0 ≡ good_trace bs
  code_is = code_by (good_trace bs) refl

  -- ---- the choice

  module _ (c : Chosen) (told : c ≡ chosen_of bs (firsts_in bs o.list o.edition)) where
    abbrev n : ℕ
    n = c.size + 8 * c.kept + 20

    -- of a good trace
    module _ (good : good_trace bs ≡ true) where
      abbrev e : ℕ
      e = edition_at bs

      abbrev ks : List Record
      ks = kept_of bs

      abbrev ss : List ℕ
      ss = firsts_in bs (list_at bs) e

      pub edition-is : o.edition ≡ e
      edition-is = ap (λ (x : Judged). x.edition) (judged ∙ opened_good bs good)

      count-is : o.count ≡ count_at bs
      count-is = ap (λ (x : Judged). x.count) (judged ∙ opened_good bs good)

      places_are : firsts_in bs o.list o.edition ≡ ss
      places_are = ap (λ (x : Judged). firsts_in bs x.list x.edition) (judged ∙ opened_good bs good)

      chosen : c ≡ chosen_of bs ss
      chosen = told ∙ ap (chosen_of bs) places_are

      many : length ss ≡ length ks
      many = sym (length-map ss (piece_at bs)) ∙ ap length (pieces_kept bs bytes good) ∙ length-map ks (bytes_of e)

      kept_is : c.kept ≡ length ks
      unfolding chosen_of
      kept_is = ap (λ (x : Chosen). x.kept) chosen ∙ many

      size_is : c.size ≡ length (records_bytes e ks)
      unfolding chosen_of
      size_is =
          ap (λ (x : Chosen). x.size) chosen ∙ ap (λ (l : List (List ℕ)). length (joined l)) (pieces_kept bs bytes good)
          ∙ ap length (joined_records e ks)

      length-is : n ≡ length (thin_trace bs)
      length-is = omega (arith, kept_is, size_is, new-length bs bytes good)

      pub inside : n ≤ length bs
      inside = omega (arith, length-is, has_room bs bytes good)

      pub kept_few : c.kept ≤ o.count
      kept_few = omega (arith, kept_is, count-is, good-count bs bytes good, fewer_kept bs bytes good)

      dropped_is : o.count - c.kept ≡ length (records_of bs) - length ks
      dropped_is = omega (arith, kept_is, count-is, good-count bs bytes good)

      -- ---- the places of what is kept

      module _ (row places : List ℕ) (long : length row ≡ most_records)
          (placed : places
          ≡ sets (sets row 0 (starts_in bs o.list o.edition)) 0 (firsts_in bs o.list o.edition)) where
        abbrev found : List ℕ
        found = sets row 0 (starts_in bs o.list o.edition)

        few : length ks ≤ most_records
        few = (makes bs bytes good).few

        found-length : length found ≡ most_records
        found-length = length-sets row 0 (starts_in bs o.list o.edition) ∙ long

        pub row-length : length places ≡ most_records
        row-length = ap length placed ∙ length-sets found 0 (firsts_in bs o.list o.edition) ∙ found-length

        first-places : take c.kept places ≡ ss
        first-places =
            cut-is found ss places c.kept (placed ∙ ap (sets found 0) places_are) (kept_is ∙ sym many)
            (omega (arith, many, few, found-length))

        pub ahead : Ahead bs 0 (take c.kept places)
        ahead = rw first-places (firsts-ahead bs bytes (list_at bs) e)

        there : pieces_at bs (take c.kept places) ≡ map (bytes_of e) ks
        there = ap (pieces_at bs) first-places ∙ pieces_kept bs bytes good

        body : joined (pieces_at bs (take c.kept places)) ≡ records_bytes e ks
        body = ap joined there ∙ joined_records e ks

        pub body_length : length (joined (pieces_at bs (take c.kept places))) ≡ c.size
        body_length = ap length body ∙ sym size_is

        starts : offsets 0 (pieces_at bs (take c.kept places)) ≡ offsets_from e 0 ks
        starts = ap (offsets 0) there ∙ offsets_records e 0 ks (makes bs bytes good).laid

        -- moved, list and trailer behind them
        module _ (base moved out places' : List ℕ) (first : moved ≡ sets base 0 (joined (pieces_at bs (take c.kept places))))
            (listed : places' ≡ sets places 0 (offsets 0 (pieces_at bs (take c.kept places))))
            (second : out ≡ sets moved c.size (seal_of o.edition c.size (take c.kept places'))) where
          list : take c.kept places' ≡ offsets_from e 0 ks
          list =
              let count : length (offsets_from e 0 ks) ≡ length ks = length-offsets e 0 ks in
              cut-is places (offsets_from e 0 ks) places' c.kept (listed ∙ ap (sets places 0) starts) (kept_is ∙ sym count)
              (omega (arith, count, few, row-length))

          sealed : out ≡ sets base 0 (thin_trace bs)
          sealed =
              let end = length (records_bytes e ks) in
              put_and_sealed e ks base moved out (first ∙ ap (sets base 0) body)
              (second
              ∙ ap (λ (k : ℕ). sets moved k (seal_of o.edition k (take c.kept places'))) size_is
              ∙ ap (λ (k : ℕ). sets moved end (seal_of k end (take c.kept places'))) edition-is
              ∙ ap (λ (l : List ℕ). sets moved end (seal_of e end l)) list)

          pub apart-is : n ≤ length base → ◌≡◌ {A = Left}
              (record { answer = record { code = 0; kept = c.kept; dropped = o.count - c.kept; length = n }; output = out })
              (apart bs base)
          apart-is room =
              let fits : length (thin_trace bs) ≤ length base = omega (arith, length-is) in
              rw (dropped_is, length-is, sealed, sets_first (thin_trace bs) base fits, kept_is)

          -- the freed tail
          module _ (same : base ≡ bs) (cleared : List ℕ) (third : cleared ≡ sets out n (replicate (length out - n) 0)) where
            abbrev zeros : List ℕ
            zeros = replicate (length bs - length (thin_trace bs)) 0

            out_length : length out ≡ length bs
            out_length = ap length sealed ∙ length-sets base 0 (thin_trace bs) ∙ ap length same

            whole : length (thin_trace bs ++ zeros) ≡ length bs
            whole =
                omega (
                  arith,
                  length-append (thin_trace bs) zeros,
                  length-replicate {A = ℕ} (length bs - length (thin_trace bs)) 0,
                  has_room bs bytes good,
                )

            output_is : cleared ≡ thin_trace bs ++ zeros
            output_is =
                let left : length out - n ≡ length bs - length (thin_trace bs) = omega (arith, out_length, length-is) in
                let place : n ≡ 0 + length (thin_trace bs) = omega (arith, length-is) in
                wrote_after bs out cleared 0 n (thin_trace bs) zeros (sealed ∙ ap (λ (x : List ℕ). sets x 0 (thin_trace bs)) same) place
                (third ∙ ap (λ (k : ℕ). sets out n (replicate k 0)) left)
                ∙ sets_first (thin_trace bs ++ zeros) bs (omega (arith, whole))
                ∙ ap (λ (x : List ℕ). (thin_trace bs ++ zeros) ++ x)
                (drop_of_length-le bs {i = length (thin_trace bs ++ zeros)} (omega (arith, whole)))
                ∙ append-nil (thin_trace bs ++ zeros)

            pub within-is : ◌≡◌ {A = Left}
                (record { answer = record { code = 0; kept = c.kept; dropped = o.count - c.kept; length = n }; output = cleared })
                (within bs)
            within-is = rw (dropped_is, length-is, output_is, kept_is)

    -- whatever the trace, the sum does not wrap
    pub bounded : (c.kept ≤ most_records) × (c.size ≤ length bs)
    unfolding chosen_of
    bounded =
        let starts = starts_in bs o.list o.edition in (
          omega (
            arith,
            ap (λ (x : Chosen). x.kept) told,
            fewer (piece_at bs) [] starts,
            length-offsets o.edition 0 (whole_records o.edition (take o.list bs)),
            few_records bs bytes o.list o.edition,
          ),
          omega (arith, ap (λ (x : Chosen). x.size) told, firsts_inside bs bytes o.list o.edition),
        )

    -- ---- the rows of a separate output

    module _ (old : List ℕ) (code : ℕ) (row : code ≡ trace_row (not (eqb o.code 0)) (ltb (length old) n)) where
      rows-by : (g : Bool) → good_trace bs ≡ g → code ≡ trace_row (not (good_trace bs)) (ltb (length old) (length (thin_trace bs)))
      unfolding trace_row
      rows-by true g = row ∙ rw (code_is, g, length-is g)
      rows-by false g = row ∙ rw (code_is, g)

      rows : code ≡ trace_row (not (good_trace bs)) (ltb (length old) (length (thin_trace bs)))
      rows = rows-by (good_trace bs) refl

      pub refused-row : (code ≡ 0 → ⊥) → refuse old code ≡ thin_of bs old
      unfolding thin_of
      refused-row off = refused _ code (apart bs old) (refuse old) rows off

      module _ (on : code ≡ 0) where
        off : (not (eqb o.code 0) ≡ false) × (ltb (length old) n ≡ false)
        off = trace_row-off (not (eqb o.code 0)) (ltb (length old) n) (sym row ∙ on)

        pub is-good : good_trace bs ≡ true
        is-good = sym code_is ∙ not-false (eqb o.code 0) off.0

        pub room : n ≤ length old
        room = ltb-false (length old) n off.1

        pub done : (left : Left) → left ≡ apart bs old → left ≡ thin_of bs old
        unfolding thin_of
        done left is = through _ code (apart bs old) (refuse old) rows on is

  -- ---- the rows within one buffer

  module _ (code : ℕ) (row : code ≡ trace_row (not (eqb o.code 0)) false) where
    rows-within : code ≡ trace_row (not (good_trace bs)) false
    rows-within = row ∙ rw code_is

    pub refused-within : (code ≡ 0 → ⊥) → refuse bs code ≡ thin_in_place_of bs
    unfolding thin_in_place_of
    refused-within off = refused _ code (within bs) (refuse bs) rows-within off

    module _ (on : code ≡ 0) where
      pub good-within : good_trace bs ≡ true
      good-within = sym code_is ∙ not-false (eqb o.code 0) (trace_row-off (not (eqb o.code 0)) false (sym row ∙ on)).0

      pub done_within : (left : Left) → left ≡ within bs → left ≡ thin_in_place_of bs
      unfolding thin_in_place_of
      done_within left is = through _ code (within bs) (refuse bs) rows-within on is
