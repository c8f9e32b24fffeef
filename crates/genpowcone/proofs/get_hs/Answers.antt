-- `get_hs` is its definition: the head's places, then the tail's. Assumes nothing.
use Rattle.std.proofs.Common.{◌≡◌, ℕ, ◌+◌, ◌≤◌, List, ◌++◌, length, replicate, arith}
use lib.ListN.{length-map, length-replicate}
use lib.Seq.{sets}
use lib.Ieee.{Float}
use Rattle.double.specs.Operators.{◌⊗◌}
use Rattle.double.specs.Numbers.{#0}
use Rattle.cone.specs.Points.{padded}
use Rattle.genpowcone.specs.loops.Places.{times}
use Rattle.genpowcone.specs.Rank3.{get_hs_of}
use Rattle.genpowcone.proofs.loops.Arrays.{two-parts}
use Rattle.genpowcone.proofs.get_hs.Goals as goal

both
    : (d1 : List Float) (μ v : Float) (n : ℕ)
    → length d1 + n ≤ 64
    → sets (sets (replicate 64 #0) 0 (times μ d1)) (length d1) (replicate n v) ≡ padded 64 (times μ d1 ++ replicate n v)
both d1 μ v n h =
    let long = length-map d1 (λ (x : Float). μ ⊗ x) in
    two-parts (times μ d1) (replicate n v) (length d1) (λ some. long) (omega (arith, long)) (omega (arith, length-replicate n v))

pub returns : goal.returns
unfolding get_hs_of
returns c =
    let a = c.args in
    rw (c.set_tail.ensures, c.times_from-block.ensures) (both a.d1.now a.mu _ a.dim2 (omega arith))
