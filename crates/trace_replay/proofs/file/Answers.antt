-- From the answer of a replay with a row of 4,096 places to its text: 8 is never given for want of room. Assumes nothing.
use mathlib.Core.Path.{◌≡◌, refl, ap, ◌∙◌}
use mathlib.Core.Bool.{Bool, true, false}
use mathlib.Core.List.{List, ◌++◌}
use Prim.Native.Nat.{ℕ, ◌≤◌, ◌<◌}
use native.Mathlib.Omega.{arith}
use lib.ListN.{length, take, drop}
use lib.Seq.{take_at}
use borrow.Author.Tests.{le-ltb}
use Rattle.cone.specs.table.Table.{trace_row, settle}
use Rattle.trace_layout.specs.Traces.{most_bytes, most_records, edition_at, good_trace, records_of}
use Rattle.trace_layout.proofs.Limits.{is_large, is_small}
use Rattle.octets.specs.lines.Lines.{refused_text}
use Rattle.trace_replay.specs.text.Text.{replay_text}
use Rattle.trace_replay.specs.declared.call.Replayed.{Replayed}
use Rattle.trace_replay.specs.call.Replay.{same_count, differing, Noted, replay_of}
use Rattle.trace_replay.proofs.call.Counting.{few_differ}
use Rattle.trace_replay.specs.file.Printed.{trace_text, printed_of}

-- a file above the limit
pub too_large : (bs : List ℕ) → most_bytes < length bs → refused_text 8 ≡ printed_of bs
unfolding printed_of
too_large bs h = rw (is_large bs h)

module _ (bs row exit : List ℕ) (a : Replayed) (told : record { answer = a; offsets = exit } ≡ replay_of bs row)
    (places : length row ≡ most_records) where
  abbrev D : List ℕ
  D = differing (edition_at bs) 0 (records_of bs)

  abbrev answered : Noted
  answered = record {
    answer = record { code = 0; records = length (records_of bs); same = same_count (edition_at bs) (records_of bs); differ = length D };
    offsets = D ++ drop (length D) row;
  }

  good-answer : good_trace bs ≡ true → record { answer = a; offsets = exit } ≡ answered
  unfolding replay_of trace_row settle
  good-answer good =
      let room : length D ≤ length row = omega (arith, few_differ bs good, places) in
      told ∙ rw (good, le-ltb (length row) (length D) room)

  bad-answer : good_trace bs ≡ false → a.code ≡ 9
  unfolding replay_of trace_row settle
  bad-answer bad = ap (λ (x : Noted). x.answer.code) told ∙ rw bad

  good_code : good_trace bs ≡ true → a.code ≡ 0
  good_code good = ap (λ (x : Noted). x.answer.code) (good-answer good)

  module _ (small : length bs ≤ most_bytes) where
    refused_with_lem : (g : Bool) → good_trace bs ≡ g → (a.code ≡ 0 → ⊥) → refused_text a.code ≡ printed_of bs
    unfolding printed_of
    refused_with_lem true g off = absurd (off (good_code g))
    refused_with_lem false g off = rw (bad-answer g, is_small bs small, g)

    pub refusal_told : (a.code ≡ 0 → ⊥) → refused_text a.code ≡ printed_of bs
    refusal_told off = refused_with_lem (good_trace bs) refl off

    judged_with : (g : Bool) → good_trace bs ≡ g → a.code ≡ 0 → good_trace bs ≡ true
    judged_with true g on = g
    judged_with false g on = absurd (omega (arith, bad-answer g, on))

    module _ (on : a.code ≡ 0) where
      good : good_trace bs ≡ true
      good = judged_with (good_trace bs) refl on

      whole : record { answer = a; offsets = exit } ≡ answered
      whole = good-answer good

      differ_is : a.differ ≡ length D
      differ_is = ap (λ (x : Noted). x.answer.differ) whole

      pub differ_few : a.differ ≤ most_records
      differ_few = omega (arith, differ_is, few_differ bs good)

      offsets_are : take a.differ exit ≡ D
      offsets_are =
          ap (λ (x : Noted). take x.answer.differ x.offsets) whole ∙ take_at D (drop (length D) row) (length D) refl

      pub done_text : (x : List ℕ) → x ≡ take a.differ exit → replay_text a.records a.same a.differ x ≡ printed_of bs
      unfolding printed_of trace_text
      done_text x cut =
          rw (is_small bs small, good, cut ∙ offsets_are, differ_is)
          (ap (λ (n : Noted). replay_text n.answer.records n.answer.same (length D) D) whole)
