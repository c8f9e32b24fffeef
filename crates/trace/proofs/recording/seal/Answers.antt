-- `seal` meets its contract: the records are walked over, and only where no row applies list and trailer go behind them. Assumes nothing.
use borrow.Author.Rules.{rules}
use mathlib.Core.Path.{◌≡◌, sym, ap, ◌∙◌}
use mathlib.Core.List.{List}
use Prim.Native.Nat.{ℕ, ◌≤◌}
use native.Mathlib.Omega.{arith}
use lib.ListN.{length, take, length-take}
use lib.Seq.{sets, length-take-le}
use Rattle.cone.specs.table.Table.{number_of, code_of}
use Rattle.cone.proofs.table.Settled.{number_above_0, refused, through}
use Rattle.octets.specs.words.Words.{AllBelow}
use Rattle.octets.proofs.words.Words.{below_of_places}
use Rattle.trace_layout.specs.Traces.{offsets_from}
use Rattle.trace.specs.declared.whole.Walked.{Walked}
use Rattle.trace.specs.whole.Whole.{whole_records, walked_of}
use Rattle.trace.specs.recording.Recording.{seal_rows, trace_seal_of}
use Rattle.trace.proofs.recording.Judging.{few, walked_inside, seal_code, SealFree, seal_free, seal_done}
use Rattle.trace.proofs.recording.seal.Goals as goal

-- what is known where the walk ended

pub overflow_mul-length : goal.overflow_mul-length
overflow_mul-length c =
    let bs : List ℕ = c.args.bytes.now in
    let used : ℕ = c.args.used in
    let e : ℕ = c.args.edition in
    let w : Walked = c.walk-walked.result in
    let told : w ≡ walked_of e (take used bs) = c.walk-walked.ensures.0 ∙ ap (walked_of e) c.front.ensures in
    let is_bytes : AllBelow 256 bs = below_of_places 256 bs (λ i h. search rules) in
    let walked_few : w.count ≤ 4096 = few bs used e is_bytes w told in
    omega (arith, walked_few)

pub overflow_add-length : goal.overflow_add-length
overflow_add-length c =
    let bs : List ℕ = c.args.bytes.now in
    let used : ℕ = c.args.used in
    let e : ℕ = c.args.edition in
    let w : Walked = c.walk-walked.result in
    let told : w ≡ walked_of e (take used bs) = c.walk-walked.ensures.0 ∙ ap (walked_of e) c.front.ensures in
    let is_bytes : AllBelow 256 bs = below_of_places 256 bs (λ i h. search rules) in
    let walked_few : w.count ≤ 4096 = few bs used e is_bytes w told in
    let inside : w.end ≤ length bs = omega (arith, walked_inside bs used e is_bytes w told, length-take used bs) in
    omega (arith, walked_few, inside)

pub overflow_add-length-2 : goal.overflow_add-length-2
overflow_add-length-2 c =
    let bs : List ℕ = c.args.bytes.now in
    let used : ℕ = c.args.used in
    let e : ℕ = c.args.edition in
    let w : Walked = c.walk-walked.result in
    let told : w ≡ walked_of e (take used bs) = c.walk-walked.ensures.0 ∙ ap (walked_of e) c.front.ensures in
    let is_bytes : AllBelow 256 bs = below_of_places 256 bs (λ i h. search rules) in
    let walked_few : w.count ≤ 4096 = few bs used e is_bytes w told in
    let inside : w.end ≤ length bs = omega (arith, walked_inside bs used e is_bytes w told, length-take used bs) in
    omega (arith, walked_few, inside)

pub returns-in-Err : goal.returns-in-Err
unfolding trace_seal_of
returns-in-Err c =
    let bs : List ℕ = c.args.bytes.now in
    let used : ℕ = c.args.used in
    let e : ℕ = c.args.edition in
    let w : Walked = c.walk-walked.result in
    let told : w ≡ walked_of e (take used bs) = c.walk-walked.ensures.0 ∙ ap (walked_of e) c.front.ensures in
    let is_bytes : AllBelow 256 bs = below_of_places 256 bs (λ i h. search rules) in
    let code_here : (number_of c.in-Err.refusal) ≡ seal_rows bs used e =
    rw c.known.ensures at (sym (ap code_of c.in-Err.is) ∙ c.trace_row.ensures) ∙ seal_code bs used e is_bytes w told in
    rw c.refused.ensures (refused _ _ _ _ code_here (number_above_0 _))

pub slice_bounds-starts-end : goal.slice_bounds-starts-end
slice_bounds-starts-end c =
    let bs : List ℕ = c.args.bytes.now in
    let used : ℕ = c.args.used in
    let e : ℕ = c.args.edition in
    let w : Walked = c.walk-walked.result in
    let starts : List ℕ = c.walk-walked.new.starts in
    let told : w ≡ walked_of e (take used bs) = c.walk-walked.ensures.0 ∙ ap (walked_of e) c.front.ensures in
    let is_bytes : AllBelow 256 bs = below_of_places 256 bs (λ i h. search rules) in
    let walked_few : w.count ≤ 4096 = few bs used e is_bytes w told in
    let starts-length : length starts ≡ 4096 = c.walk-walked.auto.starts ∙ c.row-starts.ensures.0 in
    omega (arith, walked_few, starts-length)

pub slice_bounds-seal-end : goal.slice_bounds-seal-end
slice_bounds-seal-end c =
    let bs : List ℕ = c.args.bytes.now in
    let used : ℕ = c.args.used in
    let e : ℕ = c.args.edition in
    let w : Walked = c.walk-walked.result in
    let starts : List ℕ = c.walk-walked.new.starts in
    let told : w ≡ walked_of e (take used bs) = c.walk-walked.ensures.0 ∙ ap (walked_of e) c.front.ensures in
    let is_bytes : AllBelow 256 bs = below_of_places 256 bs (λ i h. search rules) in
    let walked_few : w.count ≤ 4096 = few bs used e is_bytes w told in
    let starts-length : length starts ≡ 4096 = c.walk-walked.auto.starts ∙ c.row-starts.ensures.0 in
    let cut-length : length (take w.count starts) ≡ w.count = length-take-le w.count starts (omega (arith, walked_few, starts-length)) in
    sym cut-length

pub seal-requires : goal.seal-requires
seal-requires c =
    let bs : List ℕ = c.args.bytes.now in
    let used : ℕ = c.args.used in
    let e : ℕ = c.args.edition in
    let w : Walked = c.walk-walked.result in
    let starts : List ℕ = c.walk-walked.new.starts in
    let told : w ≡ walked_of e (take used bs) = c.walk-walked.ensures.0 ∙ ap (walked_of e) c.front.ensures in
    let is_bytes : AllBelow 256 bs = below_of_places 256 bs (λ i h. search rules) in
    let walked_few : w.count ≤ 4096 = few bs used e is_bytes w told in
    let starts-length : length starts ≡ 4096 = c.walk-walked.auto.starts ∙ c.row-starts.ensures.0 in
    let code_here : (code_of c.trace_row.result) ≡ seal_rows bs used e =
    rw c.known.ensures at c.trace_row.ensures ∙ seal_code bs used e is_bytes w told in
    let free_here : SealFree bs used e is_bytes w told = seal_free bs used e is_bytes w told (sym code_here ∙ (ap code_of c.in_default.is)) in
    let cut-length : length (take w.count starts) ≡ w.count = length-take-le w.count starts (omega (arith, walked_few, starts-length)) in
    (omega (arith, cut-length, free_here.room, free_here.whole), omega (arith, cut-length, walked_few))

pub returns : goal.returns
unfolding trace_seal_of
returns c =
    let bs : List ℕ = c.args.bytes.now in
    let used : ℕ = c.args.used in
    let e : ℕ = c.args.edition in
    let w : Walked = c.walk-walked.result in
    let starts : List ℕ = c.walk-walked.new.starts in
    let told : w ≡ walked_of e (take used bs) = c.walk-walked.ensures.0 ∙ ap (walked_of e) c.front.ensures in
    let is_bytes : AllBelow 256 bs = below_of_places 256 bs (λ i h. search rules) in
    let listed : starts ≡ sets c.row-starts.result 0 (offsets_from e 0 (whole_records e (take used bs))) =
    c.walk-walked.ensures.1 ∙ ap (λ (x : List ℕ). sets c.row-starts.result 0 (offsets_from e 0 (whole_records e x))) c.front.ensures in
    let code_here : (code_of c.trace_row.result) ≡ seal_rows bs used e =
    rw c.known.ensures at c.trace_row.ensures ∙ seal_code bs used e is_bytes w told in
    let free_here : SealFree bs used e is_bytes w told = seal_free bs used e is_bytes w told (sym code_here ∙ (ap code_of c.in_default.is)) in
    through _ _ _ _ code_here (ap code_of c.in_default.is)
    (seal_done bs used e is_bytes w told free_here c.row-starts.result starts _
    c.row-starts.ensures.0 listed c.seal.ensures)
