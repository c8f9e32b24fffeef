-- `note_all` meets its contract. The loop's invariant: noting what is left gives what the call is to leave, and the walk from here on
-- succeeds. The measure is the count of records left. Assumes nothing.
use mathlib.Core.Path.{◌≡◌, refl, sym, ap, ◌∙◌}
use mathlib.Core.List.{List}
use Prim.Native.Nat.{ℕ, ◌<◌}
use native.Mathlib.Omega.{arith}
use lib.ListN.{length, take, drop}
use lib.Seq.{sets}
use Rattle.trace.specs.declared.judge.Judged.{Judged}
use Rattle.std.specs.Prelude.{Some}
use Rattle.trace_layout.specs.Records.{record_at}
use Rattle.trace.specs.reader.Reading.{found_from, place_after}
use Rattle.trace.proofs.value.Finding.{find_none, find_some, find_of}
use Rattle.trace_replay.specs.call.Replay.{same_record}
use Rattle.trace_replay.proofs.call.Noting.{few, walks-begun, all_left, none_left, noted-most, never_none}
use Rattle.trace_replay.proofs.call.Noting.{walks_on, turn-length, turn_writes}
use Rattle.trace_replay.proofs.call.note_all.Goals as goal

pub loop-i-init : goal.loop-i-init
loop-i-init c =
    let all = all_left c.args.trace.now c.args.opened in (
      omega arith,
      refl,
      omega arith,
      refl,
      walks-begun c.args.trace.now c.args.opened c.requires.0,
      omega (arith, ap length all),
      ap (sets c.args.offsets.now 0) all,
    )

pub returns-in_default : goal.returns-in_default
returns-in_default c =
    absurd (never_none c.args.trace.now c.args.opened c.requires.0 c.loop-i.at c.loop-i.i (omega arith) c.loop-i.invariant.4
    (ap (λ (x : List ℕ). found_from x c.loop-i.at c.args.opened.edition) (sym c.front-body.ensures)
    ∙ find_none c.front-body.result.now c.loop-i.at c.args.opened.edition _ c.find.ensures.shape c.in_default.is))

pub note-n-requires : goal.note-n-requires
note-n-requires c =
    let trace : List ℕ = c.args.trace.now in
    let opened : Judged = c.args.opened in
    let more : c.loop-i.i < opened.count = omega arith in
    let l = c.loop-i in
    omega (arith, l.invariant.2, l.invariant.3, more, few trace opened c.requires.0, c.requires.1)

pub overflow_step-i : goal.overflow_step-i
overflow_step-i c =
    let trace : List ℕ = c.args.trace.now in
    let opened : Judged = c.args.opened in
    let more : c.loop-i.i < opened.count = omega arith in
    omega (arith, more, few trace opened c.requires.0)

pub loop-i-preserved : goal.loop-i-preserved
loop-i-preserved c =
    let trace : List ℕ = c.args.trace.now in
    let opened : Judged = c.args.opened in
    let more : c.loop-i.i < opened.count = omega arith in
    let is_body : c.front-body.result.now ≡ take opened.list trace = c.front-body.ensures in
    let l = c.loop-i in
    let f = c.in-Some.found in
    let got = c.find.ensures.shape in
    let is_found : found_from (take opened.list trace) l.at opened.edition ≡ Some f.shape =
    ap (λ (x : List ℕ). found_from x l.at opened.edition) (sym is_body) ∙ find_some c.front-body.result.now l.at opened.edition _ got f
    c.in-Some.is in
    let of = find_of c.front-body.result.now l.at opened.edition _ got c.find.ensures.bytes f c.in-Some.is in
    let part : f.bytes.now ≡ drop l.at (take opened.list trace) = of.1 ∙ ap (drop l.at) is_body in
    let is = c.requires.0 in
    let same : c.same_at-same.result ≡ same_record opened.edition (record_at opened.edition f.bytes.now) =
    c.same_at-same.ensures ∙ ap (λ (e : ℕ). same_record e (record_at e f.bytes.now)) of.0 in
    let moved = c.place_in-at.ensures ∙ ap (λ (x : List ℕ). place_after x l.at opened.edition) is_body in
    let length-turn =
    turn-length trace opened is l.at l.i more l.invariant.4 f.shape is_found
    f.bytes.now part
    c.same_at-same.result same c.place_in-at.result moved l.offsets
    c.note-n.new.offsets l.n c.note-n.result c.note-n.ensures.0
    c.note-n.ensures.1 in
    let turn_wrote =
    turn_writes trace opened is l.at l.i more l.invariant.4 f.shape is_found
    f.bytes.now part
    c.same_at-same.result same c.place_in-at.result moved l.offsets
    c.note-n.new.offsets l.n c.note-n.result c.note-n.ensures.0
    c.note-n.ensures.1 in (
      omega (arith, more),
      refl,
      omega (arith, c.note-n.ensures.0, noted-most c.same_at-same.result l.at, l.invariant.2),
      c.note-n.auto.offsets ∙ l.invariant.3,
      walks_on trace opened is l.at l.i more l.invariant.4 f.shape is_found c.place_in-at.result moved,
      length-turn ∙ l.invariant.5,
      turn_wrote ∙ l.invariant.6,
    )

pub returns : goal.returns
returns c =
    let l = c.loop-i in
    let none = none_left c.args.trace.now c.args.opened l.at l.i (omega arith) in
    (omega (arith, l.invariant.5, ap length none), ap (sets l.offsets l.n) (sym none) ∙ l.invariant.6)
