-- A trace: its bytes made of its edition and its records, and when bytes are a trace. 02, Order 1. Definitions only.
use Rattle.std.specs.Prelude.{ℕ, zero, suc, ◌+◌, ◌*◌, ◌-◌, Bool, ◌&&◌, List, [], ◌∷◌, ◌++◌, eqb, leb, ltb, length, take, drop}
use Rattle.octets.specs.lines.Lines.{mark}
use Rattle.octets.specs.words.Words.{word_at, row_bytes}
use Rattle.octets.specs.words.Runs.{Run, runs_bytes}
use Rattle.trace_layout.specs.Records.{Record, Laid, Sized, run, one, bytes_of, size_in, laid_at, size_at, record_at}

-- ---- constants

-- 02: "four bytes `BACK`", as a number of four bytes
abbrev pub back_mark : ℕ
back_mark = mark "BACK"

-- 02: "At most 4,096 records"
abbrev pub most_records : ℕ
most_records = 4096

-- 02: "a 20-byte trailer that points back". A trace without records is its trailer
abbrev pub trailer_size : ℕ
trailer_size = 20

-- 02, Order 2: "a file above 65,536 bytes prints only `refused 8`"
abbrev pub most_bytes : ℕ
most_bytes = 65536

-- one byte more, so that a larger file shows
abbrev pub file_room : ℕ
file_room = most_bytes + 1

-- 02, Order 14: "At most 1,000 files"
abbrev pub most_files : ℕ
most_files = 1000

-- 02, Order 9: "New traces are edition 3"
abbrev pub newest_edition : ℕ
newest_edition = 3

-- 02, Order 8: "another edition gives 9"; Order 9: "edition 3 no longer gives 9"
unfoldable pub known : ℕ → Bool
known edition = leb 1 edition && leb edition newest_edition

-- ---- the bytes of a trace

-- 02: "A trace holds records from byte 0"
unfoldable pub records_bytes : ℕ → List Record → List ℕ
records_bytes e [] = []
records_bytes e (r ∷ rs) = bytes_of e r ++ records_bytes e rs

-- 02: "the list of all record offsets in order (u64 each)"
unfoldable pub offsets_from : ℕ → ℕ → List Record → List ℕ
offsets_from e at [] = []
offsets_from e at (r ∷ rs) = at ∷ offsets_from e (at + size_in e r) rs

-- 02: "offset of that list (u64), record count (u32), edition (u32, now 1), four bytes `BACK`"
abbrev pub trailer_runs : List Run
trailer_runs = run 8 1 ∷ run 4 1 ∷ run 4 1 ∷ run 4 1 ∷ []

unfoldable pub trailer_of : ℕ → ℕ → ℕ → List ℕ
trailer_of list count edition = runs_bytes trailer_runs (one list ∷ one count ∷ one edition ∷ one back_mark ∷ [])

-- 02: "Then comes the list of all record offsets in order (u64 each), and last a 20-byte trailer that points back"
unfoldable pub trace_of : ℕ → List Record → List ℕ
trace_of e rs = records_bytes e rs ++ (row_bytes 8 (offsets_from e 0 rs) ++ trailer_of (length (records_bytes e rs)) (length rs) e)

-- every record of the list can be laid out in the edition
unfoldable pub AllLaid : ℕ → List Record → Type 0
AllLaid e [] = Unit
AllLaid e (r ∷ rs) = Laid e r × Sized r × AllLaid e rs

-- ---- when bytes are a trace

abbrev pub list_at : List ℕ → ℕ
list_at bs = word_at 8 bs (length bs - trailer_size)

abbrev pub count_at : List ℕ → ℕ
count_at bs = word_at 4 bs (length bs - 12)

abbrev pub edition_at : List ℕ → ℕ
edition_at bs = word_at 4 bs (length bs - 8)

-- the list's entry i: where record i begins
abbrev pub offset_at : List ℕ → ℕ → ℕ
offset_at bs i = word_at 8 bs (list_at bs + 8 * i)

-- the trailer: the bytes are enough for it, end in `BACK`, and it points back to a list that ends where the trailer begins
unfoldable pub trailer_ok : List ℕ → Bool
trailer_ok bs =
    leb trailer_size (length bs) && eqb (word_at 4 bs (length bs - 4)) back_mark && known (edition_at bs) && leb (count_at bs) most_records
    && eqb (list_at bs + 8 * count_at bs + trailer_size) (length bs)

-- the files of Order 2 have at most so many bytes
unfoldable pub too_large : List ℕ → Bool
too_large bs = ltb most_bytes (length bs)

-- n records lie end to end in t, the first of them at the offset `at`, and the entries are their offsets
unfoldable pub walks : ℕ → ℕ → ℕ → List ℕ → List ℕ → Bool
walks e zero at t entries = eqb (length t) 0
walks e (suc n) at t entries =
    laid_at e t && eqb (word_at 8 entries 0) at && walks e n (at + size_at e t) (drop (size_at e t) t) (drop 8 entries)

unfoldable pub good_trace : List ℕ → Bool
good_trace bs = trailer_ok bs && walks (edition_at bs) (count_at bs) 0 (take (list_at bs) bs) (drop (list_at bs) bs)

-- ---- the records of a trace

unfoldable pub records_in : ℕ → ℕ → List ℕ → List Record
records_in e zero t = []
records_in e (suc n) t = record_at e t ∷ records_in e n (drop (size_at e t) t)

unfoldable pub records_of : List ℕ → List Record
records_of bs = records_in (edition_at bs) (count_at bs) (take (list_at bs) bs)
