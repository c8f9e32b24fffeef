-- `copy` meets its contract. The loop's invariant: writing the bytes that are left gives what the call is to leave. The measure is their
-- count. Assumes nothing.
use mathlib.Core.Path.{◌≡◌, refl, sym, ap, ◌∙◌}
use mathlib.Core.List.{List}
use Prim.Native.Nat.{ℕ, ◌+◌}
use native.Mathlib.Omega.{arith}
use lib.ListN.{length-set, drop_of_length-le}
use lib.Seq.{sets}
use Rattle.octets.proofs.words.Stores.{copied}
use Rattle.octets.proofs.words.copy.Goals as goal

started : (out bytes : List ℕ) (place : ℕ) → sets out (place + 0) bytes ≡ sets out place bytes
started out bytes place = let z : place + 0 ≡ place = omega arith in rw z

pub loop-i-init : goal.loop-i-init
loop-i-init c = (omega arith, refl, refl, started c.args.out.now c.args.bytes.now c.args.place)

pub loop-i-preserved : goal.loop-i-preserved
loop-i-preserved c =
    let l = c.loop-i in
    let a = c.args in
    (omega arith, refl, simp length-set l.invariant.2, copied l.out a.bytes.now a.place l.i (omega arith) ∙ l.invariant.3)

pub returns : goal.returns
returns c =
    let l = c.loop-i in
    let a = c.args in
    ap (sets l.out (a.place + l.i)) (sym (drop_of_length-le a.bytes.now {i = l.i} (omega arith))) ∙ l.invariant.3

pub bounds-out-place : goal.bounds-out-place
bounds-out-place c = omega (arith, c.loop-i.invariant.2, c.requires)
