-- Lines one behind the other: line i in front of those that are left. Assumes nothing.
use mathlib.Core.Path.{◌≡◌, ap, ◌∙◌}
use mathlib.Core.List.{List, [], ◌++◌}
use Prim.Native.Nat.{ℕ, ◌+◌, ◌<◌, ◌≤◌}
use native.Mathlib.Numerals.{add-one}
use lib.ListN.{length, drop, get_or, length-append, drop_of_length-le}
use lib.Seq.{sets, drop-cons}
use Rattle.octets.proofs.words.Stores.{sets_after}
use Rattle.octets.specs.lines.Lines.{ascii, line_of}
use Rattle.trace_replay.specs.text.Text.{offset_lines}

module _ (offsets : List ℕ) (i : ℕ) (h : i < length offsets) where
  abbrev line : List ℕ
  line = line_of (ascii "at ") (get_or offsets i 0)

  left : offset_lines (drop i offsets) ≡ line ++ offset_lines (drop (i + 1) offsets)
  unfolding offset_lines
  left = rw (drop-cons offsets i 0 h, add-one i)

  pub lines_turn : (bs : List ℕ) (at : ℕ) → sets (sets bs at line) (at + length line) (offset_lines (drop (i + 1) offsets))
      ≡ sets bs at (offset_lines (drop i offsets))
  lines_turn bs at = rw left (sets_after line (offset_lines (drop (i + 1) offsets)) bs at)

  pub lines_length : length (offset_lines (drop i offsets)) ≡ length line + length (offset_lines (drop (i + 1) offsets))
  lines_length = ap length left ∙ length-append line (offset_lines (drop (i + 1) offsets))

pub no_more : (offsets : List ℕ) (i : ℕ) → length offsets ≤ i → offset_lines (drop i offsets) ≡ []
unfolding offset_lines
no_more offsets i h = rw (drop_of_length-le offsets {i = i} h)
