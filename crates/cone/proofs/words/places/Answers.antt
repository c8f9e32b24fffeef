-- `places` meets its contract. The loop's invariant: the places after i turns. Assumes nothing.
use mathlib.Core.Path.{ap, ◌∙◌}
use native.Mathlib.Nat.{add_comm}
use native.Mathlib.Omega.{arith}
use Prim.Native.Nat.{◌+◌, ◌-◌}
use lib.ListN.{set, drop}
use lib.Seq.{get_or-drop, get_or-take}
use lib.Ieee.{Float, binary64, of_bits}
use Rattle.arith.proofs.Turns.{iter-none, iter-next, iter_end}
use Rattle.cone.specs.words.Words.{word, places_of}
use Rattle.cone.proofs.words.places.Goals as goal

pub loop-i-init : goal.loop-i-init
loop-i-init c = iter-none _ _

pub loop-i-preserved : goal.loop-i-preserved
loop-i-preserved c =
    let l = c.loop-i in
    let w = c.args.w in
    let read = get_or-take (c.args.n + 2 - 2) (drop 2 w) l.i 0 (omega arith) ∙ get_or-drop 2 w l.i 0 ∙ ap (word w) (add_comm 2 l.i) in
    ap (λ (x : Float). set l.exps l.i x) (c.of_bits.ensures ∙ ap (of_bits binary64) read) ∙ iter-next _ _ _ l.invariant

pub returns : goal.returns
unfolding places_of
returns c = iter_end _ _ _ _ c.loop-i.invariant (omega arith) (omega arith)
