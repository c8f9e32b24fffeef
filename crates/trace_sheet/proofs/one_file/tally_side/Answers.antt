-- `tally_side` meets its contract. The loop's invariant: what was counted and what is left are the whole. The measure is the count of
-- records that may still come. Assumes nothing.
use borrow.Author.Rules.{rules}
use mathlib.Core.Path.{◌≡◌, sym, ap, ◌∙◌}
use mathlib.Core.Bool.{Bool, true, cond}
use mathlib.Core.List.{List}
use Prim.Native.Nat.{ℕ, ◌+◌, ◌-◌, ◌≤◌, ◌<◌}
use native.Mathlib.Omega.{arith}
use lib.ListN.{length, drop}
use Rattle.octets.specs.words.Words.{word_at, AllBelow}
use Rattle.octets.proofs.words.Words.{below_of_places}
use Rattle.trace_layout.specs.Traces.{most_records}
use Rattle.trace_layout.specs.declared.pieces.Shape.{Shape}
use Rattle.trace_layout.specs.pieces.Shapes.{shape_at, found_at}
use Rattle.trace_layout.proofs.pieces.Shapes.{record_is_laid, none_is_not}
use Rattle.trace_layout.specs.Records.{kind_at, dim1_at, dim2_at, flag_at, laid_at, size_at}
use Rattle.trace_layout.proofs.Records.{size-least}
use Rattle.trace_sheet.specs.counts.Counts.{place_of, places, counted, larger_of}
use Rattle.trace_sheet.proofs.one_file.Tallying.{Reached, begun, reached_as, turn_inside, has_place}
use Rattle.trace_sheet.proofs.one_file.Tallying.{turned, all_counted, all_told, none_laid, none_more}
use Rattle.trace_sheet.proofs.one_file.tally_side.Goals as goal

pub returns-in_default : goal.returns-in_default
returns-in_default c =
    let rest : List ℕ = drop c.loop-i.at c.args.bytes.now in
    let found : c.current_in.result ≡ found_at c.args.edition rest = c.current_in.ensures in
    let t = c.loop-i in
    let a = c.args in
    let none =
    none_laid a.primal a.edition a.bytes.now _ _ _ _ t.invariant
    (none_is_not a.edition rest (sym found ∙ c.in_default.is)) in
    (all_told _ _ _ _ _ _ _ t.invariant none, all_counted _ _ _ _ _ _ _ t.invariant none)

pub count-requires : goal.count-requires
unfolding shape_at
count-requires c =
    let rest : List ℕ = drop c.loop-i.at c.args.bytes.now in
    let is_bytes : AllBelow 256 c.args.bytes.now =
    below_of_places 256 c.args.bytes.now (λ i h. search rules) in
    let found : c.current_in.result ≡ found_at c.args.edition rest = c.current_in.ensures in
    let p : Bool = c.args.primal in
    let e : ℕ = c.args.edition in
    let bs : List ℕ = c.args.bytes.now in
    let shape : Shape = c.in-Some.shape in
    let early : c.loop-i.i < most_records = omega arith in
    let laid : (laid_at e rest ≡ true) × (shape ≡ shape_at e rest) = record_is_laid e rest shape (sym found ∙ c.in-Some.is) in
    let size : shape.size ≡ size_at e rest = ap (λ (x : Shape). x.size) laid.1 in
    let n : ℕ = shape.size in
    let step : ℕ = c.step_at-step.result in
    let tests : ℕ = c.tests_at-tests.result in
    let step_is : step ≡ cond p (word_at 8 rest (n - 12)) (word_at 8 rest (n - 24)) =
    c.step_at-step.ensures ∙ ap (λ (t : List ℕ). cond p (word_at 8 t (n - 12)) (word_at 8 t (n - 24))) c.behind-t.ensures in
    let tests_is : tests ≡ cond p (word_at 4 rest (n - 4)) (word_at 4 rest (n - 16)) =
    c.tests_at-tests.ensures ∙ ap (λ (t : List ℕ). cond p (word_at 4 t (n - 4)) (word_at 4 t (n - 16))) c.behind-t.ensures in
    let placed : place_of step < places =
    has_place p e bs _ _ _ _ c.loop-i.invariant is_bytes early laid.0 n
    size step tests step_is tests_is in
    let inv = c.loop-i.invariant in
    (omega (arith, placed, inv.all), omega (arith, inv.low (place_of step), early))

pub overflow_add-at : goal.overflow_add-at
unfolding shape_at
overflow_add-at c =
    let is_bytes : AllBelow 256 c.args.bytes.now =
    below_of_places 256 c.args.bytes.now (λ i h. search rules) in
    let rest : List ℕ = drop c.loop-i.at c.args.bytes.now in
    let found : c.current_in.result ≡ found_at c.args.edition rest = c.current_in.ensures in
    let e : ℕ = c.args.edition in
    let shape : Shape = c.in-Some.shape in
    let laid : (laid_at e rest ≡ true) × (shape ≡ shape_at e rest) = record_is_laid e rest shape (sym found ∙ c.in-Some.is) in
    let size : shape.size ≡ size_at e rest = ap (λ (x : Shape). x.size) laid.1 in
    let early : c.loop-i.i < most_records = omega arith in
    let fits : c.loop-i.at + shape.size ≤ length c.args.bytes.now =
    turn_inside c.args.primal e c.args.bytes.now _ _ _ _ c.loop-i.invariant is_bytes early laid.0 shape.size size in
    omega (arith, fits)

pub loop-i-preserved : goal.loop-i-preserved
unfolding shape_at
loop-i-preserved c =
    let rest : List ℕ = drop c.loop-i.at c.args.bytes.now in
    let is_bytes : AllBelow 256 c.args.bytes.now =
    below_of_places 256 c.args.bytes.now (λ i h. search rules) in
    let found : c.current_in.result ≡ found_at c.args.edition rest = c.current_in.ensures in
    let p : Bool = c.args.primal in
    let e : ℕ = c.args.edition in
    let bs : List ℕ = c.args.bytes.now in
    let shape : Shape = c.in-Some.shape in
    let early : c.loop-i.i < most_records = omega arith in
    let laid : (laid_at e rest ≡ true) × (shape ≡ shape_at e rest) = record_is_laid e rest shape (sym found ∙ c.in-Some.is) in
    let size : shape.size ≡ size_at e rest = ap (λ (x : Shape). x.size) laid.1 in
    let n : ℕ = shape.size in
    let step : ℕ = c.step_at-step.result in
    let tests : ℕ = c.tests_at-tests.result in
    let step_is : step ≡ cond p (word_at 8 rest (n - 12)) (word_at 8 rest (n - 24)) =
    c.step_at-step.ensures ∙ ap (λ (t : List ℕ). cond p (word_at 8 t (n - 12)) (word_at 8 t (n - 24))) c.behind-t.ensures in
    let tests_is : tests ≡ cond p (word_at 4 rest (n - 4)) (word_at 4 rest (n - 16)) =
    c.tests_at-tests.ensures ∙ ap (λ (t : List ℕ). cond p (word_at 4 t (n - 4)) (word_at 4 t (n - 16))) c.behind-t.ensures in
    let next : Reached p e bs (counted c.loop-i.row step) (larger_of c.loop-i.largest
    (record { size = tests + 1; file = 1; at = c.loop-i.at })) (c.loop-i.at + n) (c.loop-i.i + 1) =
    turned p e bs _ _ _ _ c.loop-i.invariant is_bytes early laid.0 n
    size step tests step_is tests_is in
    reached_as c.count.ensures c.larger_of-largest.ensures next

pub returns : goal.returns
returns c =
    let t = c.loop-i in
    let a = c.args in
    let full : most_records ≤ t.i = omega arith in
    let all : t.i ≡ most_records = omega (arith, t.invariant.few) in
    let none = none_more a.primal a.edition a.bytes.now _ _ _ _ t.invariant full in
    (rw all at (all_told _ _ _ _ _ _ _ t.invariant none), all_counted _ _ _ _ _ _ _ t.invariant none)

pub loop-i-init : goal.loop-i-init
loop-i-init c = begun _ _ _ _ c.requires

pub step_at-step-requires : goal.step_at-step-requires
unfolding shape_at
step_at-step-requires c =
    let rest : List ℕ = drop c.loop-i.at c.args.bytes.now in
    let found : c.current_in.result ≡ found_at c.args.edition rest = c.current_in.ensures in
    let e : ℕ = c.args.edition in
    let shape : Shape = c.in-Some.shape in
    let laid : (laid_at e rest ≡ true) × (shape ≡ shape_at e rest) = record_is_laid e rest shape (sym found ∙ c.in-Some.is) in
    let size : shape.size ≡ size_at e rest = ap (λ (x : Shape). x.size) laid.1 in
    let long : 56 ≤ shape.size =
    omega (arith, size, size-least e (kind_at rest) (dim1_at rest) (dim2_at rest) (flag_at e rest)) in
    long

pub tests_at-tests-requires : goal.tests_at-tests-requires
unfolding shape_at
tests_at-tests-requires c =
    let rest : List ℕ = drop c.loop-i.at c.args.bytes.now in
    let found : c.current_in.result ≡ found_at c.args.edition rest = c.current_in.ensures in
    let e : ℕ = c.args.edition in
    let shape : Shape = c.in-Some.shape in
    let laid : (laid_at e rest ≡ true) × (shape ≡ shape_at e rest) = record_is_laid e rest shape (sym found ∙ c.in-Some.is) in
    let size : shape.size ≡ size_at e rest = ap (λ (x : Shape). x.size) laid.1 in
    let long : 56 ≤ shape.size =
    omega (arith, size, size-least e (kind_at rest) (dim1_at rest) (dim2_at rest) (flag_at e rest)) in
    long

pub overflow_step-i : goal.overflow_step-i
overflow_step-i c =
    let early : c.loop-i.i < most_records = omega arith in
    omega (arith, early)

pub loop-i-smaller : goal.loop-i-smaller
loop-i-smaller c =
    let early : c.loop-i.i < most_records = omega arith in
    omega (arith, early)
