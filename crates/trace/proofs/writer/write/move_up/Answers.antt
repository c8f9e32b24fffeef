-- `move_up` meets its contract. The loop's invariant: the bytes from i on stand at their
-- new place, and nothing else has changed. Assumes nothing.
use mathlib.Core.Path.{◌≡◌, refl, sym, ap, ◌∙◌}
use mathlib.Core.List.{List}
use Prim.Native.Nat.{ℕ, suc, ◌+◌, ◌-◌}
use native.Mathlib.Omega.{arith}
use lib.ListN.{take, drop, get_or, set, length-set, length-take, length-drop, drop_of_length-le}
use lib.Seq.{sets}
use Rattle.octets.proofs.words.Stores.{move_turn, get_or_before}
use Rattle.trace.proofs.writer.write.move_up.Goals as goal

pub loop-i-init : goal.loop-i-init
loop-i-init c = (
  omega arith,
  refl,
  ap (sets c.args.bytes.now (c.args.from + c.args.by + c.args.n))
      (sym (drop_of_length-le (take c.args.n (drop c.args.from c.args.bytes.now)) {i = c.args.n}
      (simp (length-take, length-drop) (omega arith)))),
)

pub loop-i-preserved : goal.loop-i-preserved
loop-i-preserved c =
    let a = c.args in
    let l = c.loop-i in
    let i = l.i - 1 in
    let next : l.i ≡ suc i = omega arith in
    let so_far : l.bytes ≡ sets a.bytes.now (a.from + a.by + suc i) (drop (suc i) (take a.n (drop a.from a.bytes.now))) =
    rw next at l.invariant.2 in
    let here : get_or l.bytes (a.from + i) 0 ≡ get_or a.bytes.now (a.from + i) 0 =
    ap (λ (k : List ℕ). get_or k (a.from + i) 0) so_far ∙ get_or_before (drop (suc i) (take a.n (drop a.from a.bytes.now)))
    a.bytes.now (a.from + i) (a.from + a.by + suc i) (omega arith) in (
      omega arith,
      simp length-set l.invariant.1,
      ap (set l.bytes (a.from + a.by + i)) here
          ∙ ap (λ (k : List ℕ). set k (a.from + a.by + i) (get_or a.bytes.now (a.from + i) 0)) so_far
          ∙ move_turn a.bytes.now (a.from + a.by) a.from a.n i (omega arith) (omega arith),
    )

pub returns : goal.returns
returns c =
    let a = c.args in
    let none : c.loop-i.i ≡ 0 = omega arith in
    let place : a.from + a.by + 0 ≡ a.from + a.by = omega arith in
    rw (none, place) at c.loop-i.invariant.2
