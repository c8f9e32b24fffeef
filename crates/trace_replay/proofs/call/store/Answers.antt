-- `store` meets its contract. The loop's invariant: writing what is left of the row gives what the call is to leave. The measure is its
-- length. Assumes nothing.
use mathlib.Core.Path.{◌≡◌, refl, sym, ap, ◌∙◌}
use mathlib.Core.List.{List}
use Prim.Native.Nat.{ℕ, ◌+◌, ◌<◌}
use native.Mathlib.Omega.{arith}
use native.Mathlib.Numerals.{add-one}
use lib.ListN.{length, drop, get_or, set, length-set, drop_of_length-le}
use lib.Seq.{sets, drop-cons}
use Rattle.trace_replay.proofs.call.store.Goals as goal

-- number i goes out
stored : (out row : List ℕ) (i : ℕ) → i < length row
    → sets (set out i (get_or row i 0)) (i + 1) (drop (i + 1) row) ≡ sets out i (drop i row)
stored out row i h = rw (drop-cons row i 0 h, add-one i)

pub loop-i-preserved : goal.loop-i-preserved
loop-i-preserved c =
    let l = c.loop-i in
    let row = c.args.row.now in
    (omega arith, refl, simp length-set l.invariant.2, stored l.out row l.i (omega arith) ∙ l.invariant.3)

pub returns : goal.returns
returns c =
    let l = c.loop-i in
    let row = c.args.row.now in
    ap (sets l.out l.i) (sym (drop_of_length-le row {i = l.i} (omega arith))) ∙ l.invariant.3

pub loop-i-init : goal.loop-i-init
loop-i-init c = (omega arith, refl, refl, refl)

pub bounds-out-i : goal.bounds-out-i
bounds-out-i c = omega (arith, c.loop-i.invariant.2, c.requires)
