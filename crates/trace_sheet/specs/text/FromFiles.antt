-- From the bytes of files to the bytes of the text. Statement; proofs/text/FromFiles has the proof.
use Rattle.std.specs.Prelude.{ℕ, ◌≤◌, ◌≡◌, List, ◌++◌, length}
use Rattle.std.proofs.lemmas.List.Edits.{sets}
use Rattle.trace_layout.specs.Traces.{most_files}
use Rattle.trace_sheet.specs.counts.Sheet.{sheet_of}
use Rattle.trace_sheet.specs.rows.Rows.{Held, join_of}
use Rattle.trace_sheet.specs.rows.Sums.{Begun, Countable, add_all}
use Rattle.trace_sheet.specs.text.Printed.{sheet_text, text_room, Told, print_of}

-- done, and the text of these files' sheet from the slice's first byte on: behind it the slice is as it was
abbrev pub printed : List ℕ → List (List ℕ) → Told
printed old files = record {
  answer = record { code = 0; length = length (sheet_text (sheet_of files)) };
  text = sets old 0 (sheet_text (sheet_of files));
}

pub record OfFiles : Type 0 where
  -- files added one by one, then printed
  pub one_by_one : (old : List ℕ) (h : Held) (files : List (List ℕ)) → text_room ≤ length old → Begun h
      → Countable (length h.skipped) files
      → print_of old (add_all h files) ≡ printed old files
  -- two groups of them, joined and then printed
  pub two_groups : (old : List ℕ) (a b : Held) (xs ys : List (List ℕ)) → text_room ≤ length old → Begun a → Begun b
      → Countable (length a.skipped) (xs ++ ys) → length ys ≤ length b.skipped
      → print_of old (join_of (add_all a xs) (add_all b ys)) ≡ printed old (xs ++ ys)
  -- and no byte of the text is lost
  pub room : (files : List (List ℕ)) → length files ≤ most_files → length (sheet_text (sheet_of files)) ≤ text_room
