-- A sum that no row of the table refuses: what then is known, and that the rows hold the two sheets added. Assumes nothing.
use mathlib.Core.Path.{◌≡◌, refl, sym, ap, ◌∙◌}
use mathlib.Core.Bool.{Bool, true, false, not, ◌&&◌, ◌||◌}
use mathlib.Core.List.{List, ◌++◌}
use Prim.Native.Nat.{ℕ, ◌+◌, ◌≤◌}
use native.Mathlib.Omega.{arith}
use lib.Dec.{eqb, leb, ltb}
use lib.ListN.{length, take, length-append, take-append-drop}
use lib.Seq.{sets, sets-eq, length-take-le}
use borrow.Author.Tests.{eqb-true, leb-true, ltb-false, not-false}
use Rattle.arith.proofs.Branches.{and_left, and_right, or_left, or_right}
use Rattle.octets.proofs.words.Stores.{sets_after}
use Rattle.cone.proofs.table.Settled.{trace_row-off}
use Rattle.trace_layout.specs.Traces.{most_files}
use Rattle.trace_sheet.specs.declared.counts.Largest.{Largest}
use Rattle.trace_sheet.specs.counts.Counts.{places, summed, larger_of, moved_up}
use Rattle.trace_sheet.specs.counts.Sheet.{sheets_added}
use Rattle.trace_sheet.specs.rows.Added.{joined_totals}
use Rattle.trace_sheet.specs.rows.Rows.{Held, sheet_in, totals_of, holding, rows_ok, rows_in}
use Rattle.trace_sheet.specs.rows.Rows.{named_in, names_ok, spills, no_room, sheet_row, join_code}
use Rattle.trace_sheet.proofs.rows.Summing.{most}

-- ---- no row applies

pub sheet_row-off : (l b f : Bool) → sheet_row l b f ≡ 0 → (l ≡ false) × (b ≡ false) × (f ≡ false)
unfolding sheet_row
sheet_row-off true b f h = absurd (omega (arith, h))
sheet_row-off false b f h = let t = trace_row-off b f h in (refl, t.0, t.1)

pub record Whole (h : Held) : Type 0 where
  pub dual : length h.dual ≡ places
  pub primal : length h.primal ≡ places
  pub flags : h.totals.files ≤ length h.skipped

pub whole : (h : Held) → rows_in h ≡ true → Whole h
unfolding rows_ok
whole h ok =
    let d = eqb (length h.dual) places in
    let p = eqb (length h.primal) places in
    let f = leb h.totals.files (length h.skipped) in
    record {
      dual = eqb-true (length h.dual) places (and_left d p (and_left (d && p) f ok));
      primal = eqb-true (length h.primal) places (and_right d p (and_left (d && p) f ok));
      flags = leb-true h.totals.files (length h.skipped) (and_right (d && p) f ok);
    }

named_by : (files : ℕ) (t : Largest) (none : Bool) → eqb t.size 0 ≡ none → (none || (leb 1 t.file && leb t.file files)) ≡ true
    → (t.size ≡ 0 → ⊥) → t.file ≤ files
named_by files t true e ok some = absurd (some (eqb-true t.size 0 e))
named_by files t false e ok some = leb-true t.file files (and_right (leb 1 t.file) (leb t.file files) ok)

named_file : (files : ℕ) (t : Largest) → named_in files t ≡ true → (t.size ≡ 0 → ⊥) → t.file ≤ files
unfolding named_in
named_file files t ok = named_by files t (eqb t.size 0) refl ok

pub record Fits (a b : Held) : Type 0 where
  pub first : Whole a
  pub second : Whole b
  pub dual_file : (b.totals.dual.size ≡ 0 → ⊥) → b.totals.dual.file ≤ b.totals.files
  pub primal_file : (b.totals.primal.size ≡ 0 → ⊥) → b.totals.primal.file ≤ b.totals.files
  pub files : a.totals.files + b.totals.files ≤ most_files
  pub flags : a.totals.files + b.totals.files ≤ length a.skipped
  pub records : a.totals.records + b.totals.records ≤ most
  pub dual : spills a.dual b.dual ≡ false
  pub primal : spills a.primal b.primal ≡ false

module _ (a b : Held) (on : join_code a b ≡ 0) where
  abbrev fa : ℕ
  fa = a.totals.files

  abbrev fb : ℕ
  fb = b.totals.files

  abbrev named : Bool
  named = names_ok fb b.totals.dual b.totals.primal

  abbrev none : Bool
  none = no_room fa fb (length a.skipped) a.totals.records b.totals.records

  off : (not (rows_in a && rows_in b) ≡ false) × (not named ≡ false)
      × ((none || spills a.dual b.dual || spills a.primal b.primal) ≡ false)
  unfolding join_code
  off = sheet_row-off _ _ _ on

  rows_on : (rows_in a && rows_in b) ≡ true
  rows_on = not-false (rows_in a && rows_in b) off.0

  names_on : (named_in fb b.totals.dual ≡ true) × (named_in fb b.totals.primal ≡ true)
  unfolding names_ok
  names_on =
      let d = named_in fb b.totals.dual in
      let p = named_in fb b.totals.primal in
      let both : (d && p) ≡ true = not-false (d && p) off.1 in
      (and_left d p both, and_right d p both)

  none-off : none ≡ false
  none-off = or_left none (spills a.dual b.dual) (or_left _ (spills a.primal b.primal) off.2)

  room_on : (fa + fb ≤ most_files) × (fa + fb ≤ length a.skipped) × (a.totals.records + b.totals.records ≤ most)
  unfolding no_room
  room_on =
      let x = ltb most_files (fa + fb) in
      let y = ltb (length a.skipped) (fa + fb) in
      let z = ltb most (a.totals.records + b.totals.records) in
      let xy : (x || y) ≡ false = or_left (x || y) z none-off in (
        ltb-false most_files (fa + fb) (or_left x y xy),
        ltb-false (length a.skipped) (fa + fb) (or_right x y xy),
        ltb-false most (a.totals.records + b.totals.records) (or_right (x || y) z none-off),
      )

  pub fits : Fits a b
  fits = record {
    first = whole a (and_left (rows_in a) (rows_in b) rows_on);
    second = whole b (and_right (rows_in a) (rows_in b) rows_on);
    dual_file = named_file fb b.totals.dual names_on.0;
    primal_file = named_file fb b.totals.primal names_on.1;
    files = room_on.0;
    flags = room_on.1;
    records = room_on.2;
    dual = or_right none (spills a.dual b.dual)
        (or_left (none || spills a.dual b.dual) (spills a.primal b.primal) off.2);
    primal = or_right (none || spills a.dual b.dual) (spills a.primal b.primal) off.2;
  }

-- ---- what is left in the rows

-- flags behind those that are there
flags_behind : (row more : List ℕ) (n : ℕ) → n + length more ≤ length row → sets row n more ≡ sets row 0 (take n row ++ more)
flags_behind row more n room =
    let first : length (take n row) ≡ n = length-take-le n row (omega arith) in
    let end : 0 + length (take n row) ≡ n = omega (arith, first) in
    let front : sets row 0 (take n row) ≡ row = sets-eq (take n row) row 0 (omega (arith, first)) ∙ rw end (take-append-drop n row) in
    sym (sym (sets_after (take n row) more row 0) ∙ rw (front, end))

pair : {f g r : ℕ} {d e p q : Largest} {u x m n : List ℕ} → f ≡ g → d ≡ e → p ≡ q → m ≡ n
    → ◌≡◌ {A = Held}
    (record { totals = record { code = 0; files = f; records = r; dual = d; primal = p }; dual = u; primal = x; skipped = m })
    (record { totals = record { code = 0; files = g; records = r; dual = e; primal = q }; dual = u; primal = x; skipped = n })
pair h i j k = rw (h, i, j, k)

module _ (a b : Held) (fit : Fits a b) where
  abbrev m : ℕ
  m = a.totals.files

  abbrev n : ℕ
  n = b.totals.files

  first_flags : length (take m a.skipped) ≡ m
  first_flags = length-take-le m a.skipped fit.first.flags

  pub second_flags : length (take n b.skipped) ≡ n
  second_flags = length-take-le n b.skipped fit.second.flags

  all_flags : m + n ≡ length (take m a.skipped ++ take n b.skipped)
  all_flags = omega (arith, length-append (take m a.skipped) (take n b.skipped), first_flags, second_flags)

  abbrev left : Held
  left = record {
    totals = joined_totals a.totals b.totals;
    dual = summed a.dual b.dual;
    primal = summed a.primal b.primal;
    skipped = sets a.skipped m (take n b.skipped);
  }

  moved : (s t : Largest) → larger_of s (moved_up m t) ≡ larger_of s (moved_up (length (take m a.skipped)) t)
  moved s t = ap (λ (k : ℕ). larger_of s (moved_up k t)) (sym first_flags)

  pub joined : left ≡ holding a (sheets_added (sheet_in a) (sheet_in b))
  unfolding holding totals_of sheets_added sheet_in joined_totals
  joined =
      pair all_flags (moved a.totals.dual b.totals.dual) (moved a.totals.primal b.totals.primal)
      (flags_behind a.skipped (take n b.skipped) m (omega (arith, second_flags, fit.flags)))
