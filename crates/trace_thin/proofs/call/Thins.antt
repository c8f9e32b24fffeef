-- The theorems of specs/call/Thins. Assumes nothing.
use mathlib.Core.Path.{◌≡◌, refl, sym, ap, ◌∙◌, subst}
use mathlib.Core.Bool.{true, false, not}
use mathlib.Core.List.{List, [], ◌++◌, append-nil}
use Prim.Native.Nat.{ℕ, zero, suc, ◌+◌, ◌-◌, ◌≤◌, ◌<◌}
use native.Mathlib.Omega.{arith}
use lib.Dec.{ltb}
use lib.ListN.{length, drop, replicate}
use lib.Seq.{take_at, drop_at}
use borrow.Author.Tests.{le-ltb, lt-ltb, ltb-false, not-false}
use Rattle.cone.specs.table.Table.{trace_row, settle}
use Rattle.cone.proofs.table.Settled.{trace_row-off}
use Rattle.octets.specs.words.Words.{AllBelow}
use Rattle.trace_layout.specs.Records.{Record, bytes_of}
use Rattle.trace_layout.specs.Traces.{trace_of, edition_at, good_trace, records_of}
use Rattle.trace_layout.specs.Inverses.{Makes}
use Rattle.trace_layout.proofs.Traces.{good-written, edition-written, read-written}
use Rattle.trace_thin.specs.firsts.Firsts.{firsts}
use Rattle.trace_thin.proofs.firsts.Thinning.{again, first_of_kind}
use Rattle.trace_thin.specs.declared.call.Thinned.{Thinned}
use Rattle.trace_thin.specs.call.Thin.{kept_of, thin_trace, Left, refuse, report_of, apart, within, thin_of, thin_in_place_of}
use Rattle.trace_thin.specs.call.Thins.{trace_in, Done, Thins}
use Rattle.trace_thin.proofs.call.Keeping.{fewer_kept, makes, has_room}

-- ---- calls that are done, and refused ones

module _ (bs : List ℕ) (good : good_trace bs ≡ true) where
  pub room_thinned : (old : List ℕ) → length (thin_trace bs) ≤ length old → thin_of bs old ≡ apart bs old
  unfolding thin_of trace_row settle
  room_thinned old h = rw (good, le-ltb (length old) (length (thin_trace bs)) h)

  pub in_place_thinned : thin_in_place_of bs ≡ within bs
  unfolding thin_in_place_of trace_row settle
  in_place_thinned = rw good

  short_thinned : (old : List ℕ) → length old < length (thin_trace bs) → thin_of bs old ≡ refuse old 8
  unfolding thin_of trace_row settle
  short_thinned old h = rw (good, lt-ltb (length old) (length (thin_trace bs)) h)

pub broken_thinned : (bs old : List ℕ) → good_trace bs ≡ false → (thin_of bs old ≡ refuse old 9) × (thin_in_place_of bs ≡ refuse bs 9)
unfolding thin_of thin_in_place_of trace_row settle
broken_thinned bs old bad = (rw bad, rw bad)

-- ---- a call that is done was of a good trace that has room

code_zero : (k : ℕ) (bs old rest : List ℕ)
    → (settle k (record { answer = report_of bs; output = rest }) (refuse old)).answer.code ≡ 0 → k ≡ 0
unfolding settle
code_zero zero bs old rest h = refl
code_zero (suc k) bs old rest h = h

rows-off : (bs old : List ℕ) → (thin_of bs old).answer.code ≡ 0 → (good_trace bs ≡ true) × (length (thin_trace bs) ≤ length old)
unfolding thin_of
rows-off bs old on =
    let off = trace_row-off (not (good_trace bs)) (ltb (length old) (length (thin_trace bs))) (code_zero _ bs old _ on) in
    (not-false (good_trace bs) off.0, ltb-false (length old) (length (thin_trace bs)) off.1)

rows_within_off : (bs : List ℕ) → (thin_in_place_of bs).answer.code ≡ 0 → good_trace bs ≡ true
unfolding thin_in_place_of
rows_within_off bs on = not-false (good_trace bs) (trace_row-off (not (good_trace bs)) false (code_zero _ bs bs _ on)).0

-- ---- a trace that is thin already

module _ (x : List ℕ) (good : good_trace x ≡ true) (thin : thin_trace x ≡ x) (k : ℕ) (kept : length (kept_of x) ≡ k)
    (records : length (records_of x) ≡ k) where
  thin_report : ◌≡◌ {A = Thinned} (report_of x) (record { code = 0; kept = k; dropped = 0; length = length x })
  thin_report = let none : k - k ≡ 0 = omega arith in rw (thin, kept, records, none)

  thin_again : (room : List ℕ) → length x ≤ length room → ◌≡◌ {A = Left} (thin_of x room)
      (record { answer = record { code = 0; kept = k; dropped = 0; length = length x }; output = x ++ drop (length x) room })
  thin_again room h =
      room_thinned x good room (omega (arith, ap length thin))
      ∙ ap (λ (a : Thinned). record { answer = a; output = thin_trace x ++ drop (length (thin_trace x)) room }) thin_report
      ∙ ap (λ (t : List ℕ).
      record { answer = record { code = 0; kept = k; dropped = 0; length = length x }; output = t ++ drop (length t) room }) thin

  thin_in_place_again : ◌≡◌ {A = Left} (thin_in_place_of x)
      (record { answer = record { code = 0; kept = k; dropped = 0; length = length x }; output = x })
  thin_in_place_again =
      let none : length x - length x ≡ 0 = omega arith in
      in_place_thinned x good
      ∙ ap (λ (a : Thinned). record { answer = a; output = thin_trace x ++ replicate (length x - length (thin_trace x)) 0 }) thin_report
      ∙ ap (λ (t : List ℕ). record {
        answer = record { code = 0; kept = k; dropped = 0; length = length x };
        output = t ++ replicate (length x - length t) 0;
      }) thin
      ∙ ap (λ (m : ℕ). record { answer = record { code = 0; kept = k; dropped = 0; length = length x }; output = x ++ replicate m 0 }) none
      ∙ ap (λ (t : List ℕ). record { answer = record { code = 0; kept = k; dropped = 0; length = length x }; output = t }) (append-nil x)

-- ---- what is left of a good trace, whatever follows it

module _ (bs : List ℕ) (bytes : AllBelow 256 bs) (good : good_trace bs ≡ true) where
  abbrev e : ℕ
  e = edition_at bs

  abbrev ks : List Record
  ks = kept_of bs

  abbrev T : List ℕ
  T = thin_trace bs

  abbrev m : Makes e ks
  m = makes bs bytes good

  good_thin : good_trace T ≡ true
  good_thin = good-written e ks m.edition m.few m.laid

  edition_thin : edition_at T ≡ e
  edition_thin = edition-written e ks m.edition m.few m.laid

  records_thin : records_of T ≡ ks
  records_thin = read-written e ks m.edition m.few m.laid

  -- what is kept is kept again
  kept_thin : kept_of T ≡ ks
  kept_thin =
      ap (λ (i : ℕ). firsts (bytes_of i) (records_of T)) edition_thin ∙ ap (firsts (bytes_of e)) records_thin
      ∙ again (bytes_of e) [] (records_of bs)

  same_thin : thin_trace T ≡ T
  same_thin = ap (λ (i : ℕ). trace_of i (kept_of T)) edition_thin ∙ ap (trace_of e) kept_thin

  module _ (rest : List ℕ) where
    abbrev left : Left
    left = record { answer = report_of bs; output = T ++ rest }

    trace_in_lem : trace_in left ≡ T
    trace_in_lem = take_at T rest (length T) refl

    done_left : Done bs left
    done_left = record {
      good = rw trace_in_lem good_thin;
      edition = rw trace_in_lem edition_thin;
      records = rw trace_in_lem (records_thin ∙ first_of_kind (bytes_of e) (records_of bs));
      kept = rw (trace_in_lem, records_thin);
      sum = omega (arith, fewer_kept bs bytes good);
      shorter = has_room bs bytes good;
      again = λ room h. rw trace_in_lem (thin_again T good_thin same_thin (length ks) (ap length kept_thin)
          (ap length records_thin) room h);
      again_in_place =
          rw trace_in_lem (thin_in_place_again T good_thin same_thin (length ks) (ap length kept_thin) (ap length records_thin));
    }

-- ---- the theorems

of_done : (bs old : List ℕ) → AllBelow 256 bs → (thin_of bs old).answer.code ≡ 0 → Done bs (thin_of bs old)
of_done bs old bytes on =
    let r = rows-off bs old on in
    subst (Done bs) (sym (room_thinned bs r.0 old r.1)) (done_left bs bytes r.0 (drop (length (thin_trace bs)) old))

of_in_place : (bs : List ℕ) → AllBelow 256 bs → (thin_in_place_of bs).answer.code ≡ 0 → Done bs (thin_in_place_of bs)
of_in_place bs bytes on =
    let good = rows_within_off bs on in
    subst (Done bs) (sym (in_place_thinned bs good)) (done_left bs bytes good (replicate (length bs - length (thin_trace bs)) 0))

of_behind : (bs old : List ℕ) → let left = thin_of bs old in left.answer.code ≡ 0 → drop left.answer.length left.output
    ≡ drop left.answer.length old
of_behind bs old on =
    let r = rows-off bs old on in
    subst (λ (left : Left). drop left.answer.length left.output ≡ drop left.answer.length old)
    (sym (room_thinned bs r.0 old r.1))
    (drop_at (thin_trace bs) (drop (length (thin_trace bs)) old) (length (thin_trace bs)) refl)

of-cleared : (bs : List ℕ) → let left = thin_in_place_of bs in left.answer.code ≡ 0 → (n : ℕ) → left.answer.length + n ≡ length bs
    → drop left.answer.length left.output ≡ replicate n 0
of-cleared bs on =
    subst (λ (left : Left). (n : ℕ) → left.answer.length + n ≡ length bs → drop left.answer.length left.output ≡ replicate n 0)
    (sym (in_place_thinned bs (rows_within_off bs on)))
    (λ n h. let rest : length bs - length (thin_trace bs) ≡ n = omega arith in
    rw rest (drop_at (thin_trace bs) (replicate n 0) (length (thin_trace bs)) refl))

of_same : (bs old : List ℕ) → AllBelow 256 bs → (thin_of bs old).answer.code ≡ 0
    → ((thin_in_place_of bs).answer ≡ (thin_of bs old).answer) × (trace_in (thin_in_place_of bs) ≡ trace_in (thin_of bs old))
of_same bs old bytes on =
    let r = rows-off bs old on in
    let here = in_place_thinned bs r.0 in
    let there = room_thinned bs r.0 old r.1 in (
      ap (λ (left : Left). left.answer) here ∙ sym (ap (λ (left : Left). left.answer) there),
      ap trace_in here ∙ trace_in_lem bs bytes r.0 (replicate (length bs - length (thin_trace bs)) 0)
          ∙ sym (ap trace_in there ∙ trace_in_lem bs bytes r.0 (drop (length (thin_trace bs)) old)),
    )

told_length : (bs : List ℕ) → good_trace bs ≡ true → (thin_in_place_of bs).answer.length ≡ length (thin_trace bs)
told_length bs good = ap (λ (left : Left). left.answer.length) (in_place_thinned bs good)

pub thins : Thins
thins = record {
  done = of_done;
  in_place = of_in_place;
  behind = of_behind;
  cleared = of-cleared;
  same = of_same;
  broken = broken_thinned;
  short = λ bs old good h. short_thinned bs good old (omega (arith, told_length bs good));
  long = λ bs old good h. ap (λ (left : Left). left.answer.code) (room_thinned bs good old (omega (arith, told_length bs good)));
  always = λ bs good. ap (λ (left : Left). left.answer.code) (in_place_thinned bs good);
}
