-- `choose` meets its contract: the walk leaves the records' places, of which the loop takes the first of each kind. Its invariant: what was
-- chosen and what is still to be chosen are the whole choice, and the places that are left are as they were. The measure is their count.
-- Assumes nothing.
use borrow.Author.Rules.{rules}
use mathlib.Core.Path.{◌≡◌, sym, ap, ◌∙◌}
use mathlib.Core.Bool.{cond}
use mathlib.Core.List.{List}
use Prim.Native.Nat.{ℕ, ◌+◌, ◌≤◌, ◌<◌}
use native.Mathlib.Omega.{arith}
use lib.ListN.{length, take}
use lib.Seq.{sets}
use Rattle.octets.specs.words.Words.{AllBelow}
use Rattle.octets.proofs.words.Words.{below_of_places}
use Rattle.octets.proofs.words.Stores.{cut-is}
use Rattle.trace_layout.specs.Traces.{most_records, offsets_from}
use Rattle.trace_layout.proofs.Traces.{length-offsets}
use Rattle.trace.specs.declared.whole.Walked.{Walked}
use Rattle.trace.specs.whole.Whole.{whole_records, walked_of}
use Rattle.trace_thin.specs.firsts.Pieces.{piece_at, pieces_at, joined}
use Rattle.trace_thin.specs.firsts.Firsts.{firsts, starts_in, numbers_at, chosen_of}
use Rattle.trace_thin.proofs.firsts.Pieced.{few_records, all_inside}
use Rattle.trace_thin.proofs.firsts.Choosing.{begun, piece-below, more_so, more_not, turned, all_chosen, all_placed, all_listed}
use Rattle.trace_thin.proofs.firsts.choose.Goals as goal
use Rattle.trace_thin.proofs.firsts.choose.Goals.{then-new, else-new}

-- the rows have room for one more, and the piece's bytes are among all

pub keep-new-requires : goal.keep-new-requires
unfolding walked_of
keep-new-requires c =
    let b : List ℕ = c.args.bytes.now in
    let list : ℕ = c.args.list in
    let e : ℕ = c.args.edition in
    let starts : List ℕ = starts_in b list e in
    let is_bytes : AllBelow 256 b = below_of_places 256 b (λ i h. search rules) in
    let body_is : c.front.result.now ≡ take list b = c.front.ensures in
    let count-is : c.walk-walked.result.count ≡ length starts =
    ap (λ (w : Walked). w.count) c.walk-walked.ensures.0 ∙ ap (λ (t : List ℕ). length (whole_records e t)) body_is
    ∙ sym (length-offsets e 0 (whole_records e (take list b))) in
    let few : length starts ≤ most_records =
    omega (arith, length-offsets e 0 (whole_records e (take list b)), few_records b is_bytes list e) in
    let fits : c.loop-i.kept < length c.loop-i.places = let r = c.loop-i.invariant in omega (arith, r.fewer, r.room, r.fits) in
    let fits_number : c.loop-i.kept < length c.loop-i.numbers =
    let r = c.loop-i.invariant in omega (arith, r.fewer, r.few, r.number-room, count-is, few, c.requires.1) in
    record { kept_in_bounds = (fits, fits_number); numbers_value = c.loop-i.invariant.numbered }

pub overflow_add-kept : goal.overflow_add-kept
unfolding walked_of
overflow_add-kept c =
    let b : List ℕ = c.args.bytes.now in
    let list : ℕ = c.args.list in
    let e : ℕ = c.args.edition in
    let starts : List ℕ = starts_in b list e in
    let is_bytes : AllBelow 256 b = below_of_places 256 b (λ i h. search rules) in
    let body_is : c.front.result.now ≡ take list b = c.front.ensures in
    let count-is : c.walk-walked.result.count ≡ length starts =
    ap (λ (w : Walked). w.count) c.walk-walked.ensures.0 ∙ ap (λ (t : List ℕ). length (whole_records e t)) body_is
    ∙ sym (length-offsets e 0 (whole_records e (take list b))) in
    let few : length starts ≤ most_records =
    omega (arith, length-offsets e 0 (whole_records e (take list b)), few_records b is_bytes list e) in
    omega (arith, c.loop-i.invariant.fewer, c.loop-i.invariant.few, count-is, few)

pub overflow_add-size : goal.overflow_add-size
unfolding walked_of
overflow_add-size c =
    let b : List ℕ = c.args.bytes.now in
    let row : List ℕ = c.args.places.now in
    let list : ℕ = c.args.list in
    let e : ℕ = c.args.edition in
    let starts : List ℕ = starts_in b list e in
    let places : List ℕ = c.walk-walked.new.starts in
    let is_bytes : AllBelow 256 b = below_of_places 256 b (λ i h. search rules) in
    let body_is : c.front.result.now ≡ take list b = c.front.ensures in
    let placed : places ≡ sets row 0 starts =
    c.walk-walked.ensures.1 ∙ ap (λ (t : List ℕ). sets row 0 (offsets_from e 0 (whole_records e t))) body_is in
    let count-is : c.walk-walked.result.count ≡ length starts =
    ap (λ (w : Walked). w.count) c.walk-walked.ensures.0 ∙ ap (λ (t : List ℕ). length (whole_records e t)) body_is
    ∙ sym (length-offsets e 0 (whole_records e (take list b))) in
    let few : length starts ≤ most_records =
    omega (arith, length-offsets e 0 (whole_records e (take list b)), few_records b is_bytes list e) in
    let found : take c.walk-walked.result.count places ≡ starts =
    cut-is row starts places c.walk-walked.result.count placed count-is (omega (arith, few, c.requires.0)) in
    let all_below : length (joined (pieces_at b (take c.walk-walked.result.count places))) ≤ length b =
    omega (arith, ap (λ (l : List ℕ). length (joined (pieces_at b l))) found, all_inside b is_bytes list e) in
    omega (arith, c.size_at-n.ensures, piece-below _ _ _ _ _ _ _ _ _ c.loop-i.invariant (omega arith), all_below)

pub loop-i-preserved : goal.loop-i-preserved
unfolding walked_of
loop-i-preserved c =
    let b : List ℕ = c.args.bytes.now in
    let list : ℕ = c.args.list in
    let e : ℕ = c.args.edition in
    let starts : List ℕ = starts_in b list e in
    let is_bytes : AllBelow 256 b = below_of_places 256 b (λ i h. search rules) in
    let body_is : c.front.result.now ≡ take list b = c.front.ensures in
    let count-is : c.walk-walked.result.count ≡ length starts =
    ap (λ (w : Walked). w.count) c.walk-walked.ensures.0 ∙ ap (λ (t : List ℕ). length (whole_records e t)) body_is
    ∙ sym (length-offsets e 0 (whole_records e (take list b))) in
    let few : length starts ≤ most_records =
    omega (arith, length-offsets e 0 (whole_records e (take list b)), few_records b is_bytes list e) in
    let fits : c.loop-i.kept < length c.loop-i.places = let r = c.loop-i.invariant in omega (arith, r.fewer, r.room, r.fits) in
    let fits_number : c.loop-i.kept < length c.loop-i.numbers =
    let r = c.loop-i.invariant in omega (arith, r.fewer, r.few, r.number-room, count-is, few, c.requires.1) in
    let e = c.keep-new.ensures in
    let new = c.keep-new.result in
    let counts : c.if-new.kept ≡ c.loop-i.kept + cond new 1 0 = elim c.if-new.branch [
      | then-new w ↦ more_so _ _ _ _ w.if-new.true w.kept-is
      | else-new w ↦ more_not _ _ _ _ w.if-new.false w.kept-is
    ] in
    let adds : c.if-new.size ≡ c.loop-i.size + cond new c.size_at-n.result 0 = elim c.if-new.branch [
      | then-new w ↦ more_so _ _ _ _ w.if-new.true w.size-is
      | else-new w ↦ more_not _ _ _ _ w.if-new.false w.size-is
    ] in
    turned _ _ _ _ _ _ _ _ _ c.loop-i.invariant (omega arith) fits fits_number new e.0 _ _ e.1 e.2 _ _ _
    c.size_at-n.ensures counts adds

pub returns : goal.returns
unfolding walked_of
returns c =
    let b : List ℕ = c.args.bytes.now in
    let row : List ℕ = c.args.places.now in
    let list : ℕ = c.args.list in
    let e : ℕ = c.args.edition in
    let starts : List ℕ = starts_in b list e in
    let places : List ℕ = c.walk-walked.new.starts in
    let is_bytes : AllBelow 256 b = below_of_places 256 b (λ i h. search rules) in
    let body_is : c.front.result.now ≡ take list b = c.front.ensures in
    let placed : places ≡ sets row 0 starts =
    c.walk-walked.ensures.1 ∙ ap (λ (t : List ℕ). sets row 0 (offsets_from e 0 (whole_records e t))) body_is in
    let count-is : c.walk-walked.result.count ≡ length starts =
    ap (λ (w : Walked). w.count) c.walk-walked.ensures.0 ∙ ap (λ (t : List ℕ). length (whole_records e t)) body_is
    ∙ sym (length-offsets e 0 (whole_records e (take list b))) in
    let few : length starts ≤ most_records =
    omega (arith, length-offsets e 0 (whole_records e (take list b)), few_records b is_bytes list e) in
    let found : take c.walk-walked.result.count places ≡ starts =
    cut-is row starts places c.walk-walked.result.count placed count-is (omega (arith, few, c.requires.0)) in
    let r = c.loop-i.invariant in
    let all = ap (firsts (piece_at b)) found in (
      all_chosen _ _ _ _ _ _ _ _ _ r (omega arith) ∙ ap (chosen_of b) all,
      all_placed _ _ _ _ _ _ _ _ _ r (omega arith) ∙ ap (sets places 0) all
          ∙ ap (λ (l : List ℕ). sets l 0 (firsts (piece_at b) starts)) placed,
      all_listed _ _ _ _ _ _ _ _ _ r (omega arith) ∙ ap (λ (l : List ℕ). sets c.args.numbers.now 0 (numbers_at b l)) all,
    )

pub loop-i-init : goal.loop-i-init
unfolding walked_of
loop-i-init c =
    let b : List ℕ = c.args.bytes.now in
    let row : List ℕ = c.args.places.now in
    let list : ℕ = c.args.list in
    let e : ℕ = c.args.edition in
    let starts : List ℕ = starts_in b list e in
    let places : List ℕ = c.walk-walked.new.starts in
    let is_bytes : AllBelow 256 b = below_of_places 256 b (λ i h. search rules) in
    let body_is : c.front.result.now ≡ take list b = c.front.ensures in
    let count-is : c.walk-walked.result.count ≡ length starts =
    ap (λ (w : Walked). w.count) c.walk-walked.ensures.0 ∙ ap (λ (t : List ℕ). length (whole_records e t)) body_is
    ∙ sym (length-offsets e 0 (whole_records e (take list b))) in
    let few : length starts ≤ most_records =
    omega (arith, length-offsets e 0 (whole_records e (take list b)), few_records b is_bytes list e) in
    let long : length places ≡ length row = c.walk-walked.auto.starts in
    begun _ _ _ _ (omega (arith, count-is, few, long, c.requires.0))

pub bounds-places-i : goal.bounds-places-i
bounds-places-i c = let r = c.loop-i.invariant in omega (arith, r.room, r.fits)
