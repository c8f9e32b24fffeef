-- An edition without a rule is read with 1 in its place. An append looks at the rule in one test, which edition 3 passes; and the bytes of
-- a record are as many under every rule. Assumes nothing.
use Prim.Native.Nat.{ℕ, zero, suc, ◌+◌}
use mathlib.Core.Path.{◌≡◌, refl, sym, ap, ◌∙◌}
use mathlib.Core.Bool.{Bool, true, false, not, ◌&&◌}
use mathlib.Core.List.{List, []}
use lib.ListN.{length, take, drop, get_or}
use borrow.Author.Tests.{eq-eqb, ne_eqb, lt-ltb}
use Rattle.arith.proofs.Branches.{false_not_true}
use Rattle.cone.specs.table.Table.{settle, trace_row}
use Rattle.octets.specs.words.Words.{AllBelow}
use Rattle.octets.specs.words.Runs.{runs_size}
use Rattle.trace_layout.specs.Records.{Record, runs_for, rule_at, size_at, record_at}
use Rattle.trace_layout.specs.Traces.{list_at, count_at, edition_at, records_in, records_of}
use Rattle.trace_layout.proofs.Fields.{rule-of}
use Rattle.trace_layout.specs.pieces.Entries.{record_of}
use Rattle.trace.proofs.record_writer.Bits.{no_rule}
use Rattle.trace.specs.places.Given.{dim1_of, dim2_of, entry_of, used_exps, can_lay}
use Rattle.trace.specs.entries.Writing.{refuse, leave, good_front, longer, append_rows, append_of}
use Rattle.trace.proofs.entries.Judged.{can_lay_lem, free, longer-length}
use Rattle.trace.specs.declared.value.Recorded.{Recorded}
use Rattle.trace.specs.value.Recorded.{cone_of, recorded_of, recorded_in}
use Rattle.trace.specs.kept.Appended.{trace_in}
use Rattle.trace.specs.kept.Kept.{kept_of}
use Rattle.trace.specs.kept.Made.{Call, handed, called}
use Rattle.trace.proofs.kept.Appended.{exponent_places}
use Rattle.trace.proofs.kept.Kept.{append_kept}
use Rattle.promises.specs.rules.Traces.{OldUnderRule1, call_under, PassedIn, Appends}

-- ---- a record of editions 1 and 2

module _ (e : ℕ) (not-3 : e ≡ 3 → ⊥) where
  under_1 : (t : List ℕ) → (record_at e t).rule ≡ 1
  unfolding rule_at
  under_1 t = rule-of e t ∙ rw (no_rule e (ne_eqb e 3 not-3))

  each_under_1 : (n : ℕ) (t : List ℕ) (i : ℕ) → (get_or (records_in e n t) i (record_at e [])).rule ≡ 1
  unfolding records_in
  each_under_1 zero t i = under_1 []
  each_under_1 (suc n) t zero = under_1 t
  each_under_1 (suc n) t (suc i) = each_under_1 n (drop (size_at e t) t) i

pub old_under_rule_1 : OldUnderRule1
unfolding recorded_in recorded_of cone_of records_of
old_under_rule_1 bs i good not-3 here =
    rw (good, lt-ltb i (count_at bs) here) (each_under_1 (edition_at bs) not-3 (count_at bs) (take (list_at bs) bs) i)

-- ---- the rule is read back

carried
    : (bs : List ℕ) (used : ℕ) (a : Call) → AllBelow 256 bs → PassedIn a → (called bs used a).answer.code ≡ 0
    → (recorded_in (trace_in (called bs used a)) (count_at (take used bs))).cone.rule ≡ a.cone.rule
unfolding kept_of
carried bs used a bytes passed done =
    ap (λ (r : Recorded). r.cone.rule)
    (append_kept a.cone a.flag a.settings a.dz a.ds a.z a.s a.steps passed bs used bytes done)

-- ---- editions without a rule

cannot
    : (e : ℕ) (a : Call) (lays : Bool) → (e ≡ 3 → ⊥) → (a.cone.rule ≡ 1 → ⊥) → can_lay e (handed a) ≡ lays → lays ≡ false
unfolding entry_of
cannot e a true not-3 not-1 h =
    let x = entry_of a.cone a.flag a.settings a.steps in
    let ruled = (can_lay_lem e x (used_exps a.cone) a.dz a.ds a.z a.s h).ruled in
    absurd (false_not_true (simp (ne_eqb e 3 not-3, ne_eqb a.cone.rule 1 not-1) at ruled))
cannot e a false not-3 not-1 h = refl

nine : (good full : Bool) → trace_row (not (good && false)) full ≡ 9
unfolding trace_row
nine true full = refl
nine false full = refl

rows_nine : (bs : List ℕ) (used : ℕ) (r : Record) → can_lay (edition_at (take used bs)) r ≡ false → append_rows bs used r ≡ 9
unfolding append_rows
rows_nine bs used r h = rw h (nine (good_front bs used) _)

refused
    : (bs : List ℕ) (used : ℕ) (a : Call) → (edition_at (take used bs) ≡ 3 → ⊥) → (a.cone.rule ≡ 1 → ⊥)
    → (called bs used a).answer.code ≡ 9
unfolding append_of settle record_of entry_of
refused bs used a not-3 not-1 = rw (rows_nine bs used (handed a) (cannot (edition_at (take used bs)) a _ not-3 not-1 refl))

-- ---- edition 3

answers-same
    : (k : ℕ) (bs new other : List ℕ) → (k ≡ 0 → length other ≡ length new)
    → (settle k (leave bs other) (refuse bs)).answer ≡ (settle k (leave bs new) (refuse bs)).answer
unfolding settle
answers-same zero bs new other h = ap (λ (n : ℕ). record { code = 0; length = n }) (h refl)
answers-same (suc k) bs new other h = refl

module _
    (bs : List ℕ) (used : ℕ) (a : Call) (rule : ℕ) (bytes : AllBelow 256 bs) (passed : PassedIn a) (passed' : PassedIn (call_under rule a))
    (third : edition_at (take used bs) ≡ 3)
  where
    abbrev e : ℕ
    e = edition_at (take used bs)

    abbrev r : Record
    r = handed a

    abbrev r' : Record
    r' = handed (call_under rule a)

    lay_same : can_lay e r' ≡ can_lay e r
    unfolding can_lay record_of entry_of
    lay_same = rw (eq-eqb e 3 third)

    -- the bytes of a record are counted by its kind, dims and flag
    length-of
        : (b : Call) → PassedIn b → good_front bs used ≡ true → can_lay e (handed b) ≡ true
        → length (longer bs used (handed b))
        ≡ used + runs_size (runs_for e b.cone.kind (dim1_of b.cone) (dim2_of b.cone) b.flag) + 8
    unfolding entry_of
    length-of b p good laid =
        longer-length bs used bytes
        (entry_of b.cone b.flag b.settings b.steps) (used_exps b.cone) b.dz b.ds b.z b.s
        (exponent_places b.cone b.flag b.settings b.dz b.ds b.z b.s b.steps p) good laid

    length_same : good_front bs used ≡ true → can_lay e r ≡ true → length (longer bs used r') ≡ length (longer bs used r)
    length_same good laid = length-of (call_under rule a) passed' good (lay_same ∙ laid) ∙ sym (length-of a passed good laid)

    rows-by : (good laid : Bool) → good_front bs used ≡ good → can_lay e r ≡ laid → append_rows bs used r' ≡ append_rows bs used r
    unfolding append_rows trace_row
    rows-by false laid g l = rw g
    rows-by true false g l = rw (g, lay_same, l)
    rows-by true true g l = rw (g, lay_same, l, length_same g l)

    taken : append_rows bs used r ≡ 0 → (good_front bs used ≡ true) × (can_lay e r ≡ true)
    taken k =
        let f =
        free bs used bytes (entry_of a.cone a.flag a.settings a.steps) (used_exps a.cone) a.dz a.ds a.z a.s
        (exponent_places a.cone a.flag a.settings a.dz a.ds a.z a.s a.steps passed) k in
        (f.good, f.laid)

    any_rule : (called bs used (call_under rule a)).answer ≡ (called bs used a).answer
    unfolding append_of
    any_rule =
        rw (rows-by (good_front bs used) (can_lay e r) refl refl)
        (answers-same (append_rows bs used r) bs (longer bs used r) (longer bs used r') (λ k. length_same (taken k).0 (taken k).1))

pub appends : Appends
appends = record { carried = carried; refused = refused; any_rule = any_rule }
