-- `total` meets its contract. The loop's invariant: the numbers counted and those of the cones left are all. Assumes nothing.
use mathlib.Core.Path.{◌≡◌}
use mathlib.Core.List.{List, []}
use Prim.Native.Nat.{ℕ, ◌≤◌, ◌<◌, ◌+◌, ◌^◌}
use native.Mathlib.Omega.{arith}
use lib.ListN.{length, drop, get_or}
use Rattle.cone.specs.Codes.{numel_of}
use Rattle.cone.specs.words.Words.{cone_of_words, cones_of}
use Rattle.search.specs.plan.Plans.{total_of}
use Rattle.search.proofs.plan.Plans.{plan-total, total-from, total_end}
use Rattle.search.proofs.plan.total.Goals as goal

-- one turn
turn
    : (ws : List (List ℕ)) (i t r : ℕ)
    → i < length ws
    → t + total_of (drop i (cones_of ws)) ≡ total_of (cones_of ws)
    → r ≡ numel_of (cone_of_words (get_or ws i []))
    → t + r + total_of (drop (i + 1) (cones_of ws)) ≡ total_of (cones_of ws)
turn ws i t r h e f = more _ _ _ _ _ _ e (total-from ws i [] h) f
  where
    more : (t l n m k r : ℕ) → t + l ≡ n → l ≡ m + k → r ≡ m → t + r + k ≡ n
    more t l n m k r e f g = omega arith

pub overflow_add-t : goal.overflow_add-t
overflow_add-t c =
    let ws = c.args.cones.now in
    let l = c.loop-w in
    record { fits = small _ _ _ _ (turn ws l.w-index l.t _ (omega arith) l.invariant c.numel_of-t.ensures) (plan-total (cones_of ws) c.requires) }
  where
    small : (t r k n : ℕ) → t + r + k ≡ n → n ≤ 65536 → t + r < 2 ^ 64
    small t r k n e h = omega arith

pub loop-w-preserved : goal.loop-w-preserved
loop-w-preserved c =
    turn c.args.cones.now c.loop-w.w-index c.loop-w.t _ (omega arith) c.loop-w.invariant c.numel_of-t.ensures

pub returns : goal.returns
returns c = last _ _ _ c.loop-w.invariant (total_end c.args.cones.now c.loop-w.w-index (omega arith))
  where
    last : (t l n : ℕ) → t + l ≡ n → l ≡ 0 → t ≡ n
    last t l n e z = omega arith

pub loop-w-init : goal.loop-w-init
loop-w-init c = omega arith
