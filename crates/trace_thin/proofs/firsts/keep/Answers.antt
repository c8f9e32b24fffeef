-- `keep` meets its contract: a piece that was seen leaves the rows as they are, another one joins them. Assumes nothing.
use mathlib.Core.Path.{◌≡◌, refl, sym, ap, ◌∙◌}
use mathlib.Core.Bool.{not}
use mathlib.Core.List.{List}
use Prim.Native.Nat.{ℕ, ◌≤◌}
use native.Mathlib.Omega.{arith}
use lib.ListN.{length, take, set}
use lib.Seq.{length-take-le}
use Rattle.octets.specs.equal_bytes.Equal.{among, number_of}
use Rattle.trace_thin.specs.firsts.Pieces.{piece_at, pieces_at}
use Rattle.trace_thin.proofs.firsts.keep.Goals as goal

cut-length : (row : List ℕ) (kept : ℕ) → kept ≤ length row → kept ≡ length (take kept row)
cut-length row kept h = sym (length-take-le kept row h)

pub slice_bounds-seen-end-2 : goal.slice_bounds-seen-end-2
slice_bounds-seen-end-2 c = cut-length c.args.places.now c.args.kept (omega arith)

pub slice_bounds-seen-end-4 : goal.slice_bounds-seen-end-4
slice_bounds-seen-end-4 c =
    cut-length c.args.numbers.now c.args.kept (omega arith)

pub returns-then-seen : goal.returns-then-seen
returns-then-seen c =
    let p : List ℕ = piece_at c.args.bytes.now c.args.place in
    let ks : List (List ℕ) = pieces_at c.args.bytes.now (take c.args.kept c.args.places.now) in
    let told : among p ks ≡ c.seen.result = ap (λ (x : List ℕ). among x ks) (sym c.piece_at-piece.ensures) ∙ sym c.seen.ensures in
    (sym (ap not (told ∙ c.if-seen.true)), refl, refl)

pub returns : goal.returns
returns c =
    let p : List ℕ = piece_at c.args.bytes.now c.args.place in
    let ks : List (List ℕ) = pieces_at c.args.bytes.now (take c.args.kept c.args.places.now) in
    let told : among p ks ≡ c.seen.result = ap (λ (x : List ℕ). among x ks) (sym c.piece_at-piece.ensures) ∙ sym c.seen.ensures in
    let number : c.number_of-number.result ≡ number_of p = c.number_of-number.ensures ∙ ap number_of c.piece_at-piece.ensures in
    let a = c.args in
    (sym (ap not (told ∙ c.if-seen.false)), refl, ap (set a.numbers.now a.kept) number)
