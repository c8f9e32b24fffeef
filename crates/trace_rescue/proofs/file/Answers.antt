-- From the answer of a rescue to its text and output: 8 is never given for want of room. Assumes nothing.
use mathlib.Core.Path.{◌≡◌, refl, sym, ap, ◌∙◌}
use mathlib.Core.Bool.{Bool, true, false}
use mathlib.Core.List.{List, []}
use Prim.Native.Nat.{ℕ, ◌≤◌, ◌<◌}
use native.Mathlib.Omega.{arith}
use lib.ListN.{length}
use lib.Seq.{sets}
use Rattle.octets.specs.words.Words.{AllBelow}
use Rattle.octets.proofs.words.Stores.{sets_first}
use Rattle.trace_layout.specs.Traces.{most_bytes, known}
use Rattle.trace_layout.specs.declared.rooms.Lengths.{Lengths}
use Rattle.trace_layout.proofs.Limits.{is_large, is_small}
use Rattle.trace_layout.proofs.Traces.{records_least}
use Rattle.octets.specs.lines.Lines.{refused_text}
use Rattle.trace_rescue.specs.declared.call.Rescued.{Rescued}
use Rattle.trace_rescue.specs.call.Rescue.{edition_for, kept_of, saved_of, Saved, refuse, leave, rescue_of}
use Rattle.trace_rescue.proofs.call.Saving.{makes, end_inside, saved_length}
use Rattle.trace_rescue.proofs.call.Rescues.{room_rescued, other_rescued}
use Rattle.trace_rescue.specs.file.Text.{rescue_text}
use Rattle.trace_rescue.specs.file.Printed.{printed_of, written_of, lengths_of}

-- what was written, told as other bytes that equal them
pub written : (old exit text printed : List ℕ) → text ≡ printed → exit ≡ sets old 0 text → exit ≡ sets old 0 printed
written old exit text printed e w = w ∙ ap (sets old 0) e

pub lengths : (bs text output : List ℕ) (given n k : ℕ) → n ≡ length text → text ≡ printed_of bs given
    → k ≡ length output → output ≡ written_of bs given
    → ◌≡◌ {A = Lengths} (record { text = n; output = k }) (lengths_of bs given)
lengths bs text output given n k t p o q = rw (t, p, o, q)

-- ---- a file above the limit

module _ (bs : List ℕ) (given : ℕ) (large : most_bytes < length bs) where
  pub large_printed : refused_text 8 ≡ printed_of bs given
  unfolding printed_of
  large_printed = rw (is_large bs large)

  pub large_written : [] ≡ written_of bs given
  unfolding written_of
  large_written = rw (is_large bs large)

-- ---- any other

module _ (bs : List ℕ) (given : ℕ) (small : length bs ≤ most_bytes) (bytes : AllBelow 256 bs) (old exit : List ℕ)
    (places : 74916 ≤ length old) (a : Rescued) (told : record { answer = a; output = exit } ≡ rescue_of bs old given) where
  abbrev e : ℕ
  e = edition_for bs given

  -- its trace has room
  fits : known e ≡ true → length (saved_of e bs) ≤ length old
  fits edition =
      omega (
        arith,
        saved_length e bs bytes,
        end_inside e bs bytes,
        records_least e (kept_of e bs) (makes e bs bytes edition).laid,
        small,
        places,
      )

  left : known e ≡ true → ◌≡◌ {A = Saved} (record { answer = a; output = exit }) (leave e bs old)
  left edition = told ∙ room_rescued bs old given e refl edition (fits edition)

  other : known e ≡ false → ◌≡◌ {A = Saved} (record { answer = a; output = exit }) (refuse old 9)
  other edition = told ∙ other_rescued bs old given e refl edition

  -- ---- an edition that is not known

  unknown_by : (b : Bool) → known e ≡ b → (a.code ≡ 0 → ⊥) → known e ≡ false
  unknown_by true edition off = absurd (off (ap (λ (x : Saved). x.answer.code) (left edition)))
  unknown_by false edition off = edition

  module _ (off : a.code ≡ 0 → ⊥) where
    unknown : known e ≡ false
    unknown = unknown_by (known e) refl off

    pub other_printed : refused_text a.code ≡ printed_of bs given
    unfolding printed_of
    other_printed = rw (is_small bs small, unknown) (ap (λ (x : Saved). refused_text x.answer.code) (other unknown))

    pub other_written : [] ≡ written_of bs given
    unfolding written_of
    other_written = rw (is_small bs small, unknown)

    pub other_left : exit ≡ old
    other_left = ap (λ (x : Saved). x.output) (other unknown)

  -- ---- one that is

  known_by : (b : Bool) → known e ≡ b → a.code ≡ 0 → known e ≡ true
  known_by true edition on = edition
  known_by false edition on = absurd (omega (arith, on, ap (λ (x : Saved). x.answer.code) (other edition)))

  module _ (on : a.code ≡ 0) where
    knows : known e ≡ true
    knows = known_by (known e) refl on

    pub text_printed : rescue_text a.kept a.dropped a.right ≡ printed_of bs given
    unfolding printed_of
    text_printed =
        rw (is_small bs small, knows)
        (ap (λ (x : Saved). rescue_text x.answer.kept x.answer.dropped x.answer.right) (left knows))

    saved_written : saved_of e bs ≡ written_of bs given
    unfolding written_of
    saved_written = rw (is_small bs small, knows)

    pub output_length : a.length ≡ length (written_of bs given)
    output_length = ap (λ (x : Saved). x.answer.length) (left knows) ∙ ap length saved_written

    pub output_written : exit ≡ sets old 0 (written_of bs given)
    output_written =
        ap (λ (x : Saved). x.output) (left knows) ∙ sym (sets_first (saved_of e bs) old (fits knows)) ∙ ap (sets old 0) saved_written
