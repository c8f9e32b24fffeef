-- Two sheets of files that are joined give the sheet of all of them: the sum is let through, since counts stay far below their bound, and
-- by the law of two groups the rows then hold it. So do files that are added one by one, each a group of one. Assumes nothing.
use mathlib.Core.Path.{◌≡◌, refl, sym, ap, ◌∙◌}
use mathlib.Core.Bool.{Bool, true, false, cond}
use mathlib.Core.List.{List, [], ◌∷◌, ◌++◌, map, append-nil, append_assoc}
use Prim.Native.Nat.{ℕ, ◌+◌, ◌*◌, ◌≤◌, ◌<◌}
use native.Mathlib.Omega.{arith}
use lib.ListN.{length, take, get_or, length-map, length-append}
use lib.Seq.{sets, length-sets, take_all}
use borrow.Author.Tests.{eq-eqb, le-leb, le-ltb}
use Rattle.octets.proofs.words.Stores.{cut-is}
use Rattle.cone.specs.table.Table.{trace_row, settle}
use Rattle.trace_layout.specs.Traces.{most_files, most_records}
use Rattle.trace_sheet.specs.declared.counts.Largest.{Largest}
use Rattle.trace_sheet.specs.counts.Counts.{places, counts_of, largest_of}
use Rattle.trace_sheet.specs.counts.Sheet.{Sheet, flag_of, entries_of, entries_from, sheet_of, sheets_added}
use Rattle.trace_sheet.specs.counts.Laws.{AllBytes}
use Rattle.trace_sheet.proofs.counts.Rows.{length-counts, all_left, none_left}
use Rattle.trace_sheet.proofs.counts.AddsUp.{sheet_laws}
use Rattle.trace_sheet.specs.declared.one_file.Part.{Part}
use Rattle.trace_sheet.specs.one_file.Part.{counted_of, part_of, nothing}
use Rattle.trace_sheet.proofs.one_file.Parts.{parts-add}
use Rattle.std.specs.Prelude.{Option, is_some}
use Rattle.std.specs.Option.{unwrap_or}
use Rattle.trace_sheet.specs.declared.rows.Totals.{Totals}
use Rattle.trace_sheet.specs.rows.Rows.{Held, sheet_in, totals_of, held, holding, rows_ok, rows_in, names_ok, spills, no_room, sheet_row}
use Rattle.trace_sheet.specs.rows.Rows.{join_code}
use Rattle.trace_sheet.specs.rows.Rows.{join_of, add_of}
use Rattle.trace_sheet.specs.rows.Sums.{Begun, Countable, IsSheet, add_all, OfSums}
use Rattle.trace_sheet.proofs.rows.Summing.{most, no_spill}
use Rattle.trace_sheet.proofs.rows.Named.{sheet_named}

-- the rows hold the sheet of these files, and have n flags
pub record Holds (n : ℕ) (h : Held) (files : List (List ℕ)) : Type 0 where
  pub totals : h.totals ≡ totals_of (sheet_of files)
  pub dual : h.dual ≡ (sheet_of files).dual.counts
  pub primal : h.primal ≡ (sheet_of files).primal.counts
  pub flags : take (length files) h.skipped ≡ map flag_of files
  pub size : length h.skipped ≡ n
  pub room : length files ≤ n

-- ---- the sheet of one file

pub single : (p : Bool) (bs : List ℕ) → entries_from p 1 (bs ∷ []) ≡ entries_of p 1 bs
unfolding entries_from
single p bs = append-nil (entries_of p 1 bs)

-- what one_file leaves holds that sheet
filled : {r q : ℕ} {d e p o : Largest} {u v x y f g : List ℕ} → r ≡ q → d ≡ e → p ≡ o → u ≡ v → x ≡ y → f ≡ g → ◌≡◌ {A = Held}
    (record { totals = record { code = 0; files = 1; records = r; dual = d; primal = p }; dual = u; primal = x; skipped = f })
    (record { totals = record { code = 0; files = 1; records = q; dual = e; primal = o }; dual = v; primal = y; skipped = g })
filled h i j k l m = rw (h, i, j, k, l, m)

module _ (bs : List ℕ) (counted : Option Part) (part : Part) (dual primal : List ℕ) (flag : ℕ) (told : counted ≡ part_of bs)
    (adds : part ≡ unwrap_or counted nothing)
    (dual-is : dual ≡ counts_of (entries_of false 1 bs)) (primal_is : primal ≡ counts_of (entries_of true 1 bs))
    (flag_is : flag ≡ cond (is_some counted) 0 1) where
  flags : ◌≡◌ {A = List ℕ} (flag ∷ []) (flag_of bs ∷ [])
  unfolding flag_of
  flags =
      ap (λ (f : ℕ). f ∷ []) (flag_is ∙ ap (λ (x : Option Part). cond (is_some x) 0 1) told
      ∙ ap (λ (x : Bool). cond x 0 1) (parts-add bs).1)

  is : part ≡ counted_of bs
  is = adds ∙ ap (λ (x : Option Part). unwrap_or x nothing) told ∙ (parts-add bs).0

  pub one-held : record {
    totals = record { code = 0; files = 1; records = part.records; dual = part.dual; primal = part.primal };
    dual = dual;
    primal = primal;
    skipped = flag ∷ [];
  } ≡ held (sheet_of (bs ∷ []))
  unfolding held totals_of sheet_of counted_of
  one-held =
      filled (ap (λ (x : Part). x.records) is ∙ ap length (sym (single false bs)))
      (ap (λ (x : Part). x.dual) is ∙ ap largest_of (sym (single false bs)))
      (ap (λ (x : Part). x.primal) is ∙ ap largest_of (sym (single true bs)))
      (dual-is ∙ ap counts_of (sym (single false bs))) (primal_is ∙ ap counts_of (sym (single true bs))) flags

-- ---- what is known of the rows of a sheet

module _ (files : List (List ℕ)) where
  dual-places : length (sheet_of files).dual.counts ≡ places
  unfolding sheet_of
  dual-places = length-counts (entries_from false 1 files)

  primal_places : length (sheet_of files).primal.counts ≡ places
  unfolding sheet_of
  primal_places = length-counts (entries_from true 1 files)

  files_flags : length (sheet_of files).skipped ≡ length files
  unfolding sheet_of
  files_flags = length-map files flag_of

  flags_are : (sheet_of files).skipped ≡ map flag_of files
  unfolding sheet_of
  flags_are = refl

  total_files : (totals_of (sheet_of files)).files ≡ length files
  unfolding totals_of
  total_files = files_flags

  total_records : (totals_of (sheet_of files)).records ≡ (sheet_of files).records
  unfolding totals_of
  total_records = refl

-- ---- what is known of rows that hold a sheet

module _ (n : ℕ) (h : Held) (xs : List (List ℕ)) (holds : Holds n h xs) where
  pub holds_files : h.totals.files ≡ length xs
  holds_files = ap (λ (t : Totals). t.files) holds.totals ∙ total_files xs

  holds_records : h.totals.records ≡ (sheet_of xs).records
  holds_records = ap (λ (t : Totals). t.records) holds.totals ∙ total_records xs

  same_sheet : {r : ℕ} {f g u v x y : List ℕ} {d p : Largest} → f ≡ g → u ≡ v → x ≡ y → ◌≡◌ {A = Sheet}
      (record { records = r; skipped = f; dual = record { counts = u; largest = d }; primal = record { counts = x; largest = p } })
      (record { records = r; skipped = g; dual = record { counts = v; largest = d }; primal = record { counts = y; largest = p } })
  same_sheet i j k = rw (i, j, k)

  told_sheet : (t : Totals) → t ≡ totals_of (sheet_of xs) → ◌≡◌ {A = Sheet}
      (record {
        records = t.records;
        skipped = (sheet_of xs).skipped;
        dual = record { counts = (sheet_of xs).dual.counts; largest = t.dual };
        primal = record { counts = (sheet_of xs).primal.counts; largest = t.primal };
      })
      (sheet_of xs)
  unfolding totals_of
  told_sheet t e = rw e

  pub holds_sheet : sheet_in h ≡ sheet_of xs
  unfolding sheet_in
  holds_sheet =
      same_sheet (ap (λ (k : ℕ). take k h.skipped) holds_files ∙ holds.flags ∙ sym (flags_are xs)) holds.dual holds.primal
      ∙ told_sheet h.totals holds.totals

  pub holds_rows : rows_in h ≡ true
  unfolding rows_ok
  holds_rows =
      let d = ap length holds.dual ∙ dual-places xs in
      let p = ap length holds.primal ∙ primal_places xs in
      let f : h.totals.files ≤ length h.skipped = omega (arith, holds_files, holds.size, holds.room) in
      rw (eq-eqb (length h.dual) places d, eq-eqb (length h.primal) places p, le-leb h.totals.files (length h.skipped) f)

  holds_names : names_ok h.totals.files h.totals.dual h.totals.primal ≡ true
  holds_names = ap (λ (t : Totals). names_ok t.files t.dual t.primal) holds.totals ∙ sheet_named xs

  code_zero : (totals_of (sheet_of xs)).code ≡ 0
  unfolding totals_of
  code_zero = refl

  is_sheet : IsSheet h xs
  is_sheet = record { done = ap (λ (t : Totals). t.code) holds.totals ∙ code_zero; all = holds_sheet }

-- ---- two sheets joined

module _ (m n : ℕ) (a b : Held) (xs ys : List (List ℕ)) (first : Holds m a xs) (second : Holds n b ys) (bytes : AllBytes xs)
    (more_bytes : AllBytes ys) (few : length xs + length ys ≤ most_files) (free : length xs + length ys ≤ m) where
  few_first : (sheet_of xs).records ≤ most_records * length xs
  few_first = sheet_laws.few xs bytes

  few_second : (sheet_of ys).records ≤ most_records * length ys
  few_second = sheet_laws.few ys more_bytes

  room : no_room a.totals.files b.totals.files (length a.skipped) a.totals.records b.totals.records ≡ false
  unfolding no_room
  room =
      let first_files = holds_files m a xs first in
      let second_files = holds_files n b ys second in
      let first_records = holds_records m a xs first in
      let second_records = holds_records n b ys second in
      let all : a.totals.files + b.totals.files ≤ most_files = omega arith in
      let flags : a.totals.files + b.totals.files ≤ length a.skipped = omega (arith, first.size) in
      let records : a.totals.records + b.totals.records ≤ most = omega (arith, few_first, few_second) in
      rw (
        le-ltb most_files (a.totals.files + b.totals.files) all,
        le-ltb (length a.skipped) (a.totals.files + b.totals.files) flags,
        le-ltb most (a.totals.records + b.totals.records) records,
      )

  dual-room : spills a.dual b.dual ≡ false
  dual-room =
      no_spill a.dual b.dual
      (λ k. omega (
        arith,
        ap (λ (l : List ℕ). get_or l k 0) first.dual,
        ap (λ (l : List ℕ). get_or l k 0) second.dual,
        sheet_laws.dual_few xs k,
        sheet_laws.dual_few ys k,
        few_first,
        few_second,
      ))

  primal_room : spills a.primal b.primal ≡ false
  primal_room =
      no_spill a.primal b.primal
      (λ k. omega (
        arith,
        ap (λ (l : List ℕ). get_or l k 0) first.primal,
        ap (λ (l : List ℕ). get_or l k 0) second.primal,
        sheet_laws.primal_few xs k,
        sheet_laws.primal_few ys k,
        few_first,
        few_second,
      ))

  let_through : join_code a b ≡ 0
  unfolding join_code sheet_row trace_row
  let_through = rw (holds_rows m a xs first, holds_rows n b ys second, holds_names n b ys second, room, dual-room, primal_room)

  abbrev all : List (List ℕ)
  all = xs ++ ys

  sum : sheets_added (sheet_in a) (sheet_in b) ≡ sheet_of all
  sum =
      ap (λ (s : Sheet). sheets_added s (sheet_in b)) (holds_sheet m a xs first)
      ∙ ap (sheets_added (sheet_of xs)) (holds_sheet n b ys second)
      ∙ sym (sheet_laws.groups xs ys)

  added : join_of a b ≡ holding a (sheet_of all)
  unfolding join_of settle
  added = rw let_through (ap (holding a) sum)

  fits : length all ≤ m
  fits = omega (arith, length-append xs ys)

  new_flags : take (length all) (sets a.skipped 0 (sheet_of all).skipped) ≡ map flag_of all
  new_flags =
      cut-is a.skipped (sheet_of all).skipped (sets a.skipped 0 (sheet_of all).skipped) (length all) refl (sym (files_flags all))
      (omega (arith, files_flags all, fits, first.size))
      ∙ flags_are all

  holds_all : Holds m (holding a (sheet_of all)) all
  unfolding holding
  holds_all = record {
    totals = refl;
    dual = refl;
    primal = refl;
    flags = new_flags;
    size = length-sets a.skipped 0 (sheet_of all).skipped ∙ first.size;
    room = fits;
  }

  pub join_holds : Holds m (join_of a b) all
  join_holds = rw added holds_all

-- ---- file after file

-- rows that hold a sheet and nothing else
held_holds : (files : List (List ℕ)) → Holds (length files) (held (sheet_of files)) files
unfolding held
held_holds files = record {
  totals = refl;
  dual = refl;
  primal = refl;
  flags = take_all (length files) (sheet_of files).skipped (omega (arith, files_flags files)) ∙ flags_are files;
  size = files_flags files;
  room = omega arith;
}

pub bytes_append : (xs ys : List (List ℕ)) → AllBytes xs → AllBytes ys → AllBytes (xs ++ ys)
unfolding AllBytes
bytes_append [] ys h g = g
bytes_append (bs ∷ xs) ys h g = (h.0, bytes_append xs ys h.1 g)

first_bytes : (bs : List ℕ) (files : List (List ℕ)) → AllBytes (bs ∷ files) → AllBytes (bs ∷ []) × AllBytes files
unfolding AllBytes
first_bytes bs files h = ((h.0, tt), h.1)

bytes_parts : (xs ys : List (List ℕ)) → AllBytes (xs ++ ys) → AllBytes xs × AllBytes ys
unfolding AllBytes
bytes_parts [] ys h = (tt, h)
bytes_parts (bs ∷ xs) ys h = let rest = bytes_parts xs ys h.1 in ((h.0, rest.0), rest.1)

add_holds : (n : ℕ) (h : Held) (xs : List (List ℕ)) (bs : List ℕ) → Holds n h xs → AllBytes xs → AllBytes (bs ∷ []) → length xs < most_files
    → length xs < n → Holds n (add_of h bs) (xs ++ (bs ∷ []))
unfolding add_of
add_holds n h xs bs holds before bytes early free =
    join_holds n (length (bs ∷ [])) h (held (sheet_of (bs ∷ []))) xs (bs ∷ []) holds (held_holds (bs ∷ [])) before bytes (omega arith)
    (omega arith)

add_all_lem : (n : ℕ) (h : Held) (xs files : List (List ℕ)) → Holds n h xs → AllBytes xs → AllBytes files
    → length xs + length files ≤ most_files
    → length xs + length files ≤ n → Holds n (add_all h files) (xs ++ files)
unfolding add_all
add_all_lem n h xs [] holds before bytes few free = rw (append-nil xs) holds
add_all_lem n h xs (bs ∷ files) holds before bytes few free =
    let parts = first_bytes bs files bytes in
    let next = add_holds n h xs bs holds before parts.0 (omega arith) (omega arith) in
    let size = length-append xs (bs ∷ []) in
    rw (append_assoc xs (bs ∷ []) files) at
    (add_all_lem n (add_of h bs) (xs ++ (bs ∷ [])) files next (bytes_append xs (bs ∷ []) before parts.0) parts.1 (omega arith)
    (omega arith))

begun_holds : (h : Held) → Begun h → Holds (length h.skipped) h []
unfolding sheet_of entries_from
begun_holds h begun = record {
  totals = begun.totals;
  dual = none_left h.dual begun.dual.all ∙ all_left h.dual begun.dual [];
  primal = none_left h.primal begun.primal.all ∙ all_left h.primal begun.primal [];
  flags = refl;
  size = refl;
  room = omega arith;
}

no_bytes : AllBytes []
unfolding AllBytes
no_bytes = tt

pub all_hold : (h : Held) (files : List (List ℕ)) → Begun h → Countable (length h.skipped) files
    → Holds (length h.skipped) (add_all h files) files
all_hold h files begun fit =
    add_all_lem (length h.skipped) h [] files (begun_holds h begun) no_bytes fit.bytes (omega (arith, fit.few))
    (omega (arith, fit.flags))

pub groups_hold : (a b : Held) (xs ys : List (List ℕ)) → Begun a → Begun b → Countable (length a.skipped) (xs ++ ys)
    → length ys ≤ length b.skipped
    → Holds (length a.skipped) (join_of (add_all a xs) (add_all b ys)) (xs ++ ys)
groups_hold a b xs ys a-begun b-begun fit flags =
    let bytes = bytes_parts xs ys fit.bytes in
    let size = length-append xs ys in
    let few : length xs + length ys ≤ most_files = omega (arith, fit.few) in
    let free : length xs + length ys ≤ length a.skipped = omega (arith, fit.flags) in
    let first = all_hold a xs a-begun (record { bytes = bytes.0; few = omega arith; flags = omega arith }) in
    let second = all_hold b ys b-begun (record { bytes = bytes.1; few = omega arith; flags = flags }) in
    join_holds (length a.skipped) (length b.skipped) (add_all a xs) (add_all b ys) xs ys first second bytes.0 bytes.1 few free

pub files_added : OfSums
files_added = record {
  one_by_one = λ h files begun fit. is_sheet (length h.skipped) (add_all h files) files (all_hold h files begun fit);
  two_groups = λ a b xs ys a-begun b-begun fit flags.
      is_sheet (length a.skipped) (join_of (add_all a xs) (add_all b ys)) (xs ++ ys) (groups_hold a b xs ys a-begun b-begun fit flags);
}
