-- `walk` meets its contract. The loop's invariant: what was walked and what is left are the whole walk. Assumes nothing.
use borrow.Author.Rules.{rules}
use mathlib.Core.Path.{◌≡◌, sym, ◌∙◌}
use Prim.Native.Nat.{◌≤◌, ◌<◌}
use native.Mathlib.Omega.{arith}
use lib.ListN.{length, drop}
use Rattle.octets.proofs.words.Words.{below_of_places}
use Rattle.trace_layout.specs.Traces.{most_records}
use Rattle.trace_layout.proofs.pieces.Shapes.{none_is_not}
use Rattle.trace.proofs.reader.Places.{found_laid, found_inside}
use Rattle.trace.proofs.whole.Walking.{begun, turned, walked, all_listed, none_laid, none_more}
use Rattle.trace.proofs.whole.walk.Goals as goal

pub returns-in_default : goal.returns-in_default
returns-in_default c =
    let l = c.loop-i in
    let a = c.args in
    let none =
    none_laid a.edition a.bytes.now _ _ _ _ l.invariant
    (none_is_not a.edition (drop l.at a.bytes.now) (sym c.current_in.ensures ∙ c.in_default.is)) in
    (walked _ _ _ _ _ _ l.invariant none, all_listed _ _ _ _ _ _ l.invariant none)

pub overflow_add-at : goal.overflow_add-at
overflow_add-at c =
    let a = c.args in
    omega (arith, found_inside a.bytes.now c.loop-i.at a.edition c.in-Some.shape (sym c.current_in.ensures ∙ c.in-Some.is), c.well_formed.0)

pub returns : goal.returns
returns c =
    let l = c.loop-i in
    let a = c.args in
    let full : most_records ≤ l.i = omega arith in
    let all : l.i ≡ most_records = omega (arith, l.invariant.few) in
    let none = none_more a.edition a.bytes.now _ _ _ _ l.invariant full in
    (rw all at (walked _ _ _ _ _ _ l.invariant none), all_listed _ _ _ _ _ _ l.invariant none)

pub loop-i-init : goal.loop-i-init
loop-i-init c = begun _ _ _

pub bounds-starts-i : goal.bounds-starts-i
bounds-starts-i c =
    let early : c.loop-i.i < most_records = omega arith in
    let row_room : c.loop-i.i < length c.loop-i.starts = omega (arith, early, c.loop-i.invariant.room, c.requires) in
    row_room

pub loop-i-preserved : goal.loop-i-preserved
loop-i-preserved c =
    let l = c.loop-i in
    let a = c.args in
    let early : l.i < most_records = omega arith in
    let laid = found_laid a.bytes.now l.at a.edition c.in-Some.shape (sym c.current_in.ensures ∙ c.in-Some.is) in
    turned a.edition a.bytes.now _ _ _ _ l.invariant (below_of_places 256 a.bytes.now (λ i h. search rules)) early laid.0
    c.in-Some.shape.size laid.1
