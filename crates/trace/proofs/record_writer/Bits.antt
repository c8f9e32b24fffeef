-- The bits of a vector, by place. Assumes nothing.
use mathlib.Core.Path.{◌≡◌, refl, ap}
use Prim.Native.Nat.{ℕ, zero, suc, ◌+◌, ◌*◌, ◌<◌}
use mathlib.Core.Bool.{true, false}
use mathlib.Core.List.{List, [], ◌∷◌}
use native.Mathlib.Omega.{arith}
use lib.Ieee.{Float, binary64, to_bits, nan}
use lib.ListN.{length, get_or, length-append}
use Rattle.octets.specs.words.Words.{row_bytes}
use Rattle.octets.proofs.words.Words.{length-row_bytes}
use borrow.Author.Tests.{eq-eqb, ne_eqb}
use Rattle.trace_layout.specs.Records.{has_rule, rules_in, settings_in}
use Rattle.trace_layout.specs.pieces.Entries.{bits_of}
use Rattle.trace.specs.record_writer.Parts.{vector_bytes}

pub length-bits_of : (row : List Float) → length (bits_of row) ≡ length row
length-bits_of [] = refl
length-bits_of (x ∷ row) = ap suc (length-bits_of row)

pub bits_at : (row : List Float) (i : ℕ) → i < length row → to_bits binary64 (get_or row i nan) ≡ get_or (bits_of row) i 0
bits_at [] i h = absurd (omega arith)
bits_at (x ∷ row) zero h = refl
bits_at (x ∷ row) (suc i) h = bits_at row i (omega arith)

-- ---- the rule of an edition

pub one-rule : (e : ℕ) → has_rule e ≡ true → rules_in e ≡ 1
unfolding rules_in
one-rule e h = rw h

pub no_rule : (e : ℕ) → has_rule e ≡ false → rules_in e ≡ 0
unfolding rules_in
no_rule e h = rw h

-- ---- the settings behind a flag

pub two-settings : (f : ℕ) → f ≡ 0 → settings_in f ≡ 2
unfolding settings_in
two-settings f h = rw (eq-eqb f 0 h)

pub no_settings : (f : ℕ) → (f ≡ 0 → ⊥) → settings_in f ≡ 0
unfolding settings_in
no_settings f h = rw (ne_eqb f 0 h)

-- ---- lengths

pub length-row : (row : List Float) → length (row_bytes 8 (bits_of row)) ≡ 8 * length row
length-row row = rw (length-row_bytes 8 (bits_of row), length-bits_of row)

pub length-vectors : (dz ds z s : List Float) → length (vector_bytes dz ds z s)
    ≡ 8 * length dz + 8 * length ds + 8 * length z + 8 * length s
unfolding vector_bytes
length-vectors dz ds z s = simp (length-append, length-row)
