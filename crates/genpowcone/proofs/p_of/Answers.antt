-- `p_of` is its definition: the head's places, then the tail's. Assumes nothing.
use Rattle.std.proofs.Common.{◌≡◌, ℕ, ◌≤◌, List, ◌++◌, length, take, replicate, arith, length-take, rules}
use lib.ListN.{length-map}
use lib.Seq.{sets}
use lib.Ieee.{Float}
use Rattle.double.specs.Operators.{◌⊗◌}
use Rattle.double.specs.Numbers.{#0}
use Rattle.cone.specs.Points.{padded}
use Rattle.genpowcone.specs.loops.Places.{times}
use Rattle.genpowcone.proofs.loops.Arrays.{two-parts}
use Rattle.genpowcone.proofs.p_of.Goals as goal

both
    : (τ w : List Float) (n : ℕ) (c0 c1 : Float)
    → length τ ≡ 32 → n ≤ 32 → length w ≤ 32
    → sets (sets (replicate 64 #0) 0 (times c0 (take n τ))) n (times c1 w) ≡ padded 64 (times c0 (take n τ) ++ times c1 w)
both τ w n c0 c1 e h k =
    let head = length-map (take n τ) (λ (x : Float). c0 ⊗ x) in
    let tail = length-map w (λ (x : Float). c1 ⊗ x) in
    two-parts (times c0 (take n τ)) (times c1 w) n (λ some. omega (arith, head, length-take n τ))
    (omega (arith, head, length-take n τ)) (omega (arith, tail))

pub times_from-p-requires : goal.times_from-p-requires
times_from-p-requires c = rw c.head.ensures (simp length-take (omega arith))

pub returns : goal.returns
returns c =
    let cut = c.before.before in
    let a = cut.args in
    rw (c.times_from.ensures, c.times_from-p.ensures, cut.head.ensures)
    (both a.tau.now a.w.now a.dim1 a.c0 a.c1 (search rules) (omega arith) (omega arith))
