-- What is known of a sheet that is printed, and that its three parts are its text. Assumes nothing.
use mathlib.Core.Path.{◌≡◌, ◌∙◌}
use mathlib.Core.Bool.{true, false, not}
use mathlib.Core.List.{List, ◌++◌}
use Prim.Native.Nat.{ℕ, ◌≤◌}
use native.Mathlib.Omega.{arith}
use lib.Dec.{ltb}
use lib.ListN.{length, take}
use lib.Seq.{sets, length-take-le}
use borrow.Author.Tests.{ltb-false, not-false}
use Rattle.trace_layout.specs.Traces.{most_files}
use Rattle.trace_sheet.specs.rows.Rows.{Held, sheet_in, rows_in, sheet_row}
use Rattle.trace_sheet.proofs.rows.Joining.{Whole, sheet_row-off, whole}
use Rattle.trace_sheet.specs.lines.Text.{skipped_lines, side_text}
use Rattle.trace_sheet.proofs.lines.Writing.{Wrote, and_then}
use Rattle.trace_sheet.specs.text.Printed.{sheet_text, text_room, Told}

pub record Fits (old : List ℕ) (h : Held) : Type 0 where
  pub rows : Whole h
  pub files : h.totals.files ≤ most_files
  pub room : text_room ≤ length old

module _ (old : List ℕ) (h : Held) where
  pub fits : sheet_row (not (rows_in h)) (ltb most_files h.totals.files) (ltb (length old) text_room) ≡ 0 → Fits old h
  fits on =
      let off = sheet_row-off (not (rows_in h)) (ltb most_files h.totals.files) (ltb (length old) text_room) on in
      record {
        rows = whole h (not-false (rows_in h) off.0);
        files = ltb-false most_files h.totals.files off.1;
        room = ltb-false (length old) text_room off.2;
      }

  -- the flags that are used
  abbrev pub flags : List ℕ
  flags = take h.totals.files h.skipped

  pub flags_length : Fits old h → length flags ≡ h.totals.files
  flags_length fit = length-take-le h.totals.files h.skipped fit.rows.flags

  abbrev pub dual-part : List ℕ
  dual-part = side_text false h.totals.records (record { counts = h.dual; largest = h.totals.dual })

  abbrev pub primal_part : List ℕ
  primal_part = side_text true h.totals.records (record { counts = h.primal; largest = h.totals.primal })

  told : {n m : ℕ} {x y : List ℕ} → n ≡ m → x ≡ y → ◌≡◌ {A = Told}
      (record { answer = record { code = 0; length = n }; text = x }) (record { answer = record { code = 0; length = m }; text = y })
  told p q = rw (p, q)

  -- line behind line
  pub whole_text : (one two three : List ℕ) (second third end : ℕ) → Wrote old one 0 second (skipped_lines 1 flags)
      → Wrote one two second third dual-part → Wrote two three third end primal_part
      → ◌≡◌ {A = Told} (record { answer = record { code = 0; length = end }; text = three })
      (record { answer = record { code = 0; length = length (sheet_text (sheet_in h)) }; text = sets old 0 (sheet_text (sheet_in h)) })
  unfolding sheet_text sheet_in
  whole_text one two three second third end w₁ w₂ w₃ =
      let to_dual = and_then old one two 0 second third (skipped_lines 1 flags) dual-part w₁ w₂ in
      let all = and_then old two three 0 third end (skipped_lines 1 flags ++ dual-part) primal_part to_dual w₃ in
      told (all.0 ∙ omega arith) all.1
