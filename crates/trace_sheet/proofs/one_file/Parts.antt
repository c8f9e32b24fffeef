-- What a file adds: nothing where it is above the limit or broken, and else its records. Assumes nothing.
use mathlib.Core.Path.{◌≡◌, refl, sym, ap, ◌∙◌}
use mathlib.Core.Bool.{Bool, true, false}
use mathlib.Core.List.{List, []}
use Prim.Native.Nat.{ℕ, ◌≤◌, ◌<◌}
use native.Mathlib.Omega.{arith}
use lib.Dec.{leb}
use lib.ListN.{length}
use borrow.Author.Tests.{le-leb, lt-leb}
use Rattle.octets.specs.words.Words.{AllBelow}
use Rattle.trace_layout.specs.Traces.{most_bytes, edition_at, good_trace}
use Rattle.trace.specs.declared.judge.Judged.{Judged}
use Rattle.trace.specs.judge.Opening.{open_of}
use Rattle.trace.specs.whole.Whole.{whole_records}
use Rattle.trace.proofs.whole.Longest.{whole_holds}
use Rattle.trace_sheet.specs.declared.counts.Largest.{Largest}
use Rattle.trace_sheet.specs.counts.Counts.{Fresh, counts_of, largest_of}
use Rattle.std.specs.Prelude.{Option, Some, None, is_some}
use Rattle.std.specs.Option.{unwrap_or}
use Rattle.trace_sheet.specs.declared.one_file.Part.{Part}
use Rattle.trace_sheet.specs.counts.Sheet.{taken, entries_in, entries_of}
use Rattle.trace_sheet.proofs.counts.Rows.{all_left, none_left}
use Rattle.trace_sheet.specs.declared.one_file.Tally.{Tally}
use Rattle.trace_sheet.specs.one_file.Part.{tally_of, counted_of, part_of, nothing}

module _ (bs : List ℕ) where
  -- ---- a file that is skipped

  pub too_large : most_bytes < length bs → taken bs ≡ false
  unfolding taken
  too_large h = rw (lt-leb (length bs) most_bytes h)

  broken_by : (g : Bool) → good_trace bs ≡ g → ((open_of bs).code ≡ 0 → ⊥) → good_trace bs ≡ false
  unfolding open_of
  broken_by true g off = absurd (off (rw g))
  broken_by false g off = g

  taken-by : (b g : Bool) → leb (length bs) most_bytes ≡ b → good_trace bs ≡ false → taken bs ≡ false
  unfolding taken
  taken-by true g h bad = rw (h, bad)
  taken-by false g h bad = rw h

  pub broken : ((open_of bs).code ≡ 0 → ⊥) → taken bs ≡ false
  broken off = taken-by (leb (length bs) most_bytes) false refl (broken_by (good_trace bs) refl off)

  module _ (skipped : taken bs ≡ false) where
    no_entries : (p : Bool) (file : ℕ) → entries_of p file bs ≡ []
    unfolding entries_of
    no_entries p file = rw skipped

    pub no_part : None ≡ part_of bs
    unfolding part_of
    no_part = rw skipped

    -- .. and nothing is what it would add
    pub adds-nothing : nothing ≡ counted_of bs
    unfolding counted_of largest_of
    adds-nothing = rw (no_entries false 1, no_entries true 1)

    pub no_counts : (p : Bool) (row : List ℕ) → Fresh row → row ≡ counts_of (entries_of p 1 bs)
    no_counts p row fresh =
        none_left row fresh.all ∙ all_left row fresh [] ∙ ap counts_of (sym (no_entries p 1))

  -- whether it was taken, what is added is what it has
  parts-by : (b : Bool) → taken bs ≡ b → (unwrap_or (part_of bs) nothing ≡ counted_of bs) × (is_some (part_of bs) ≡ taken bs)
  unfolding part_of
  parts-by true e = rw e (refl, refl)
  parts-by false e = rw e (adds-nothing e, refl)

  pub parts-add : (unwrap_or (part_of bs) nothing ≡ counted_of bs) × (is_some (part_of bs) ≡ taken bs)
  parts-add = parts-by (taken bs) refl

  -- ---- a file that is counted

  module _ (bytes : AllBelow 256 bs) (few : length bs ≤ most_bytes) (o : Judged) (is : o ≡ open_of bs) (on : o.code ≡ 0) where
    bad_code : good_trace bs ≡ false → (open_of bs).code ≡ 9
    unfolding open_of
    bad_code g = rw g

    good-by : (g : Bool) → good_trace bs ≡ g → (open_of bs).code ≡ 0 → good_trace bs ≡ true
    good-by true g h = g
    good-by false g h = absurd (omega (arith, bad_code g, h))

    good : good_trace bs ≡ true
    good = good-by (good_trace bs) refl (ap (λ (x : Judged). x.code) (sym is) ∙ on)

    is-taken : taken bs ≡ true
    unfolding taken
    is-taken = rw (le-leb (length bs) most_bytes few, good)

    edition-is : o.edition ≡ edition_at bs
    unfolding open_of
    edition-is = ap (λ (x : Judged). x.edition) is ∙ rw good

    -- the records that the walk finds are the trace's
    pub entries_are : (p : Bool) → entries_in p 1 o.edition 0 (whole_records o.edition bs) ≡ entries_of p 1 bs
    unfolding entries_of
    entries_are p =
        rw is-taken (ap (λ (e : ℕ). entries_in p 1 e 0 (whole_records e bs)) edition-is
        ∙ ap (entries_in p 1 (edition_at bs) 0) (whole_holds.good bs bytes good))

    part-of : {n : ℕ} {d p : Largest} → n ≡ length (entries_of false 1 bs) → d ≡ largest_of (entries_of false 1 bs)
        → p ≡ largest_of (entries_of true 1 bs)
        → ◌≡◌ {A = Option Part} (Some (record { records = n; dual = d; primal = p })) (part_of bs)
    unfolding part_of counted_of
    part-of i j k = rw (is-taken, i, j, k)

    pub whole_part : (d p : Tally) → d ≡ tally_of (entries_in false 1 o.edition 0 (whole_records o.edition bs))
        → p ≡ tally_of (entries_in true 1 o.edition 0 (whole_records o.edition bs))
        → ◌≡◌ {A = Option Part} (Some (record { records = d.records; dual = d.largest; primal = p.largest })) (part_of bs)
    unfolding tally_of
    whole_part d p d-is p-is =
        part-of (ap (λ (x : Tally). x.records) d-is ∙ ap length (entries_are false))
        (ap (λ (x : Tally). x.largest) d-is ∙ ap largest_of (entries_are false))
        (ap (λ (x : Tally). x.largest) p-is ∙ ap largest_of (entries_are true))
