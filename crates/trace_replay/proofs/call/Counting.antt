-- How many records are the same and how many differ, and what a replay answers of a trace that was judged. Assumes nothing.
use mathlib.Core.Path.{◌≡◌, refl, sym, ap, ◌∙◌}
use mathlib.Core.Bool.{Bool, true, false, cond, not}
use mathlib.Core.List.{List, [], ◌∷◌, ◌++◌}
use Prim.Native.Nat.{ℕ, zero, suc, ◌+◌, ◌-◌, ◌≤◌}
use native.Mathlib.Omega.{arith}
use lib.Dec.{eqb, ltb}
use lib.ListN.{length, take, drop}
use lib.Seq.{sets}
use borrow.Author.Tests.{ltb-false}
use Rattle.arith.proofs.Branches.{and_left, false_not_true}
use Rattle.cone.specs.table.Table.{trace_row}
use Rattle.cone.proofs.table.Settled.{refused, through, trace_row-off}
use Rattle.octets.proofs.words.Stores.{sets_first}
use Rattle.trace_layout.specs.Records.{Record, size_at, size_in}
use Rattle.trace_layout.specs.Traces.{most_records, count_at, list_at, edition_at, trailer_ok, walks, good_trace, records_in, records_of}
use Rattle.trace_layout.proofs.Traces.{ends}
use Rattle.trace.specs.declared.judge.Judged.{Judged}
use Rattle.trace.specs.judge.Opening.{open_of}
use Rattle.trace_replay.specs.call.Replay.{same_record, same_count, noted, differing, differing_in, Noted, refuse, refused_with, replay_of}
use Rattle.trace_replay.proofs.call.Noting.{few}

-- ---- the same and those that differ are all

counts_more : (same : Bool) (at n k : ℕ) (offsets : List ℕ) → n + length offsets ≡ k
    → cond same (suc n) n + length (noted same at ++ offsets) ≡ suc k
unfolding noted
counts_more true at n k offsets h = omega arith
counts_more false at n k offsets h = omega arith

pub counts : (e at : ℕ) (rs : List Record) → same_count e rs + length (differing e at rs) ≡ length rs
unfolding same_count differing
counts e at [] = omega arith
counts e at (r ∷ rs) = counts_more (same_record e r) at (same_count e rs) (length rs)
    (differing e (at + size_in e r) rs) (counts e (at + size_in e r) rs)

length_records : (e n : ℕ) (t : List ℕ) → length (records_in e n t) ≡ n
unfolding records_in
length_records e zero t = refl
length_records e (suc n) t = ap suc (length_records e n (drop (size_at e t) t))

-- a good trace has at most 4,096 records, so no more differ
pub few_differ : (bs : List ℕ) → good_trace bs ≡ true → length (differing (edition_at bs) 0 (records_of bs)) ≤ most_records
unfolding records_of good_trace
few_differ bs good =
    let few = (ends bs (and_left (trailer_ok bs)
    (walks (edition_at bs) (count_at bs) 0 (take (list_at bs) bs) (drop (list_at bs) bs)) good)).few in
    omega (arith, few, counts (edition_at bs) 0 (records_of bs), length_records (edition_at bs) (count_at bs) (take (list_at bs) bs))

-- ---- the answer

module _ (bs old : List ℕ) where
  abbrev D : List ℕ
  D = differing (edition_at bs) 0 (records_of bs)

  abbrev answered : Noted
  answered = record {
    answer = record { code = 0; records = length (records_of bs); same = same_count (edition_at bs) (records_of bs); differ = length D };
    offsets = D ++ drop (length D) old;
  }

  rows_with : (g : Bool) → good_trace bs ≡ g → trace_row (not (eqb (open_of bs).code 0))
      (ltb (length old) (length (differing_in bs (open_of bs))))
      ≡ trace_row (not (good_trace bs)) (ltb (length old) (length D))
  unfolding open_of differing_in trace_row records_of
  rows_with true g = rw g
  rows_with false g = rw g

  module _ (o : Judged) (is : o ≡ open_of bs) where
    abbrev found : List ℕ
    found = differing_in bs o

    pub found-most : length found ≤ o.count
    unfolding differing_in
    found-most =
        let rs = records_in o.edition o.count (take o.list bs) in
        omega (arith, counts o.edition 0 rs, length_records o.edition o.count (take o.list bs))

    pub found_few : length found ≤ most_records
    found_few = omega (arith, found-most, few bs o is)

    module _ (code n : ℕ) (row : code ≡ trace_row (not (eqb o.code 0)) (ltb (length old) n)) (count : n ≡ length found) where
      rows : code ≡ trace_row (not (good_trace bs)) (ltb (length old) (length D))
      rows = row ∙ rw (count, is) (rows_with (good_trace bs) refl)

      pub refused-row : (code ≡ 0 → ⊥) → record { answer = refused_with code; offsets = old } ≡ replay_of bs old
      unfolding replay_of
      refused-row off = refused _ code answered (refuse old) rows off

      module _ (on : code ≡ 0) where
        pub room : n ≤ length old
        room = ltb-false (length old) n (trace_row-off (not (eqb o.code 0)) (ltb (length old) n) (sym row ∙ on)).1

        judged_with : (g : Bool) → good_trace bs ≡ g → (not (good_trace bs)) ≡ false → good_trace bs ≡ true
        judged_with true g h = g
        judged_with false g h = absurd (false_not_true (sym (sym (ap not g) ∙ h)))

        good : good_trace bs ≡ true
        good = judged_with (good_trace bs) refl (trace_row-off (not (good_trace bs)) (ltb (length old) (length D)) (sym rows ∙ on)).0

        whole : o ≡ record { code = 0; edition = edition_at bs; count = count_at bs; list = list_at bs }
        unfolding open_of
        whole = is ∙ rw good

        found-is : found ≡ D
        unfolding differing_in records_of
        found-is = rw whole

        count-is : o.count ≡ length (records_of bs)
        unfolding records_of
        count-is = ap (λ (x : Judged). x.count) whole ∙ sym (length_records (edition_at bs) (count_at bs) (take (list_at bs) bs))

        same_is : o.count - n ≡ same_count (edition_at bs) (records_of bs)
        same_is = omega (arith, count-is, count, ap length found-is, counts (edition_at bs) 0 (records_of bs))

        wrote : sets old 0 D ≡ D ++ drop (length D) old
        wrote = sets_first D old (omega (arith, room, count, ap length found-is))

        pub replayed_row : (exit row' : List ℕ) → row' ≡ found → exit ≡ sets old 0 row'
            → record { answer = record { code = 0; records = o.count; same = o.count - n; differ = n }; offsets = exit } ≡ replay_of bs old
        unfolding replay_of
        replayed_row exit row' cut stored =
            through _ code answered (refuse old) rows on
            (rw (stored, cut, found-is, wrote, same_is, count-is, count ∙ ap length found-is))
