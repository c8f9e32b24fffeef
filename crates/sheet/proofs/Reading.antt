-- No file, and one file more, of those that were read and added one by one; and the text of their sheet. Assumes nothing.
use mathlib.Core.Path.{◌≡◌, refl, sym, ap, ◌∙◌}
use mathlib.Core.List.{List, [], ◌∷◌, ◌++◌}
use Prim.Native.Nat.{ℕ, ◌+◌, ◌≤◌}
use native.Mathlib.Omega.{arith}
use lib.ListN.{length, length-append}
use Rattle.std.specs.Prelude.{Some}
use Rattle.octets.specs.words.Words.{AllBelow}
use Rattle.trace_layout.specs.Traces.{most_files}
use Rattle.trace_sheet.specs.counts.Laws.{AllBytes}
use Rattle.trace_sheet.specs.declared.rows.Totals.{Totals}
use Rattle.trace_sheet.specs.rows.Rows.{Held, add_of}
use Rattle.trace_sheet.specs.rows.Sums.{Begun, Countable, add_all}
use Rattle.trace_sheet.proofs.rows.Sums.{bytes_append}
use Rattle.trace_sheet.specs.declared.text.Printed.{Printed}
use Rattle.trace_sheet.specs.text.Printed.{text_room, Told, print_of}
use Rattle.trace_sheet.proofs.text.FromFiles.{files_printed}
use Rattle.sheet.specs.Counting.{Added, FilesCounted, SheetPrinted}

no_bytes : AllBytes []
unfolding AllBytes
no_bytes = tt

one_bytes : (bs : List ℕ) → AllBelow 256 bs → AllBytes (bs ∷ [])
unfolding AllBytes
one_bytes bs h = (h, tt)

pub none-added : {t u : Totals} {dual primal skipped : List ℕ} → u ≡ t
    → Added 0 (record { totals = t; dual = dual; primal = primal; skipped = skipped })
    (record { totals = u; dual = dual; primal = primal; skipped = skipped })
unfolding add_all
none-added e = record { files = []; bytes = no_bytes; all = refl; held = rw e }

add_last : (h : Held) (files : List (List ℕ)) (bs : List ℕ) → add_all h (files ++ (bs ∷ [])) ≡ add_of (add_all h files) bs
unfolding add_all
add_last h [] bs = refl
add_last h (one ∷ files) bs = add_last (add_of h one) files bs

pub one_more : (n : ℕ) (before mid after : Held) (bs : List ℕ) → Added n before mid → AllBelow 256 bs → after ≡ add_of mid bs
    → Added (n + 1) before after
one_more n before mid after bs so_far bytes e = record {
  files = so_far.files ++ (bs ∷ []);
  bytes = bytes_append so_far.files (bs ∷ []) so_far.bytes (one_bytes bs bytes);
  all = length-append so_far.files (bs ∷ []) ∙ ap (λ (k : ℕ). k + 1) so_far.all;
  held = e ∙ ap (λ (h : Held). add_of h bs) so_far.held ∙ sym (add_last before so_far.files bs);
}

-- every file was read: what is printed is the text of their sheet
module _ (asked : ℕ) (old new : List ℕ) (before : Held) (dual primal skipped : List ℕ) (few : asked ≤ most_files)
    (room : text_room ≤ length old) (begun : Begun before) (flags : length before.skipped ≡ most_files) where
  pub sheet_printed : (t : Totals) → FilesCounted asked (Some t) before dual primal skipped → (answer : Printed)
      → record { answer = answer; text = new } ≡ print_of old (record { totals = t; dual = dual; primal = primal; skipped = skipped })
      → SheetPrinted asked answer.length old new
  sheet_printed t counted answer told =
      let files = counted.added.files in
      let all : length files ≡ asked = counted.added.all ∙ counted.all.1 in
      let fit : Countable (length before.skipped) files =
      record { bytes = counted.added.bytes; few = omega arith; flags = omega arith } in
      let held : Totals → Held = λ u. record { totals = u; dual = dual; primal = primal; skipped = skipped } in
      let whole = told ∙ ap (λ (u : Totals). print_of old (held u)) counted.all.0 ∙ ap (print_of old) counted.added.held ∙ files_printed.one_by_one old before files room begun fit in
      record {
        files = files;
        bytes = counted.added.bytes;
        all = all;
        end = ap (λ (t : Told). t.answer.length) whole;
        text = ap (λ (t : Told). t.text) whole;
      }
