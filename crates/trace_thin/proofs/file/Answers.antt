-- From the answer of a thinning to its text and output: 8 is never given for want of room. Assumes nothing.
use mathlib.Core.Path.{◌≡◌, refl, sym, ap, ◌∙◌}
use mathlib.Core.Bool.{Bool, true, false}
use mathlib.Core.List.{List, []}
use Prim.Native.Nat.{ℕ, ◌≤◌, ◌<◌}
use native.Mathlib.Omega.{arith}
use lib.ListN.{length}
use lib.Seq.{sets}
use Rattle.octets.specs.words.Words.{AllBelow}
use Rattle.octets.proofs.words.Stores.{sets_first}
use Rattle.trace_layout.specs.Traces.{most_bytes, good_trace}
use Rattle.trace_layout.specs.declared.rooms.Lengths.{Lengths}
use Rattle.trace_layout.proofs.Limits.{is_large, is_small}
use Rattle.octets.specs.lines.Lines.{refused_text}
use Rattle.trace_thin.specs.declared.call.Thinned.{Thinned}
use Rattle.trace_thin.specs.call.Thin.{thin_trace, Left, refuse, apart, thin_of}
use Rattle.trace_thin.proofs.call.Keeping.{has_room}
use Rattle.trace_thin.proofs.call.Thins.{room_thinned, broken_thinned}
use Rattle.trace_thin.specs.file.Text.{thin_text}
use Rattle.trace_thin.specs.file.Printed.{printed_of, written_of, lengths_of}

-- what was written, told as other bytes that equal them
pub written : (old exit text printed : List ℕ) → text ≡ printed → exit ≡ sets old 0 text → exit ≡ sets old 0 printed
written old exit text printed e w = w ∙ ap (sets old 0) e

pub lengths : (bs text output : List ℕ) (n k : ℕ) → n ≡ length text → text ≡ printed_of bs → k ≡ length output → output ≡ written_of bs
    → ◌≡◌ {A = Lengths} (record { text = n; output = k }) (lengths_of bs)
lengths bs text output n k t p o q = rw (t, p, o, q)

-- ---- a file above the limit

module _ (bs : List ℕ) (large : most_bytes < length bs) where
  pub large_printed : refused_text 8 ≡ printed_of bs
  unfolding printed_of
  large_printed = rw (is_large bs large)

  pub large_written : [] ≡ written_of bs
  unfolding written_of
  large_written = rw (is_large bs large)

-- ---- any other

module _ (bs : List ℕ) (small : length bs ≤ most_bytes) (bytes : AllBelow 256 bs) (old exit : List ℕ) (places : most_bytes ≤ length old)
    (a : Thinned) (told : record { answer = a; output = exit } ≡ thin_of bs old) where
  -- its trace has room
  fits : good_trace bs ≡ true → length (thin_trace bs) ≤ length old
  fits good = omega (arith, has_room bs bytes good, small, places)

  left : good_trace bs ≡ true → ◌≡◌ {A = Left} (record { answer = a; output = exit }) (apart bs old)
  left good = told ∙ room_thinned bs good old (fits good)

  other : good_trace bs ≡ false → ◌≡◌ {A = Left} (record { answer = a; output = exit }) (refuse old 9)
  other bad = told ∙ (broken_thinned bs old bad).0

  -- ---- a broken trace

  broken_by : (b : Bool) → good_trace bs ≡ b → (a.code ≡ 0 → ⊥) → good_trace bs ≡ false
  broken_by true good off = absurd (off (ap (λ (x : Left). x.answer.code) (left good)))
  broken_by false bad off = bad

  module _ (off : a.code ≡ 0 → ⊥) where
    broken : good_trace bs ≡ false
    broken = broken_by (good_trace bs) refl off

    pub broken_printed : refused_text a.code ≡ printed_of bs
    unfolding printed_of
    broken_printed = rw (is_small bs small, broken) (ap (λ (x : Left). refused_text x.answer.code) (other broken))

    pub broken_written : [] ≡ written_of bs
    unfolding written_of
    broken_written = rw (is_small bs small, broken)

    pub broken_left : exit ≡ old
    broken_left = ap (λ (x : Left). x.output) (other broken)

  -- ---- a good one

  good-by : (b : Bool) → good_trace bs ≡ b → a.code ≡ 0 → good_trace bs ≡ true
  good-by true good on = good
  good-by false bad on = absurd (omega (arith, on, ap (λ (x : Left). x.answer.code) (other bad)))

  module _ (on : a.code ≡ 0) where
    good : good_trace bs ≡ true
    good = good-by (good_trace bs) refl on

    pub text_printed : thin_text a.length a.kept a.dropped ≡ printed_of bs
    unfolding printed_of
    text_printed =
        rw (is_small bs small, good)
        (ap (λ (x : Left). thin_text x.answer.length x.answer.kept x.answer.dropped) (left good))

    thin_written : thin_trace bs ≡ written_of bs
    unfolding written_of
    thin_written = rw (is_small bs small, good)

    pub output_length : a.length ≡ length (written_of bs)
    output_length = ap (λ (x : Left). x.answer.length) (left good) ∙ ap length thin_written

    pub output_written : exit ≡ sets old 0 (written_of bs)
    output_written =
        ap (λ (x : Left). x.output) (left good) ∙ sym (sets_first (thin_trace bs) old (fits good)) ∙ ap (sets old 0) thin_written
