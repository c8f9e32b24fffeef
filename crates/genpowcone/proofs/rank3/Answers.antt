-- `rank3` is its definition: the calls are replaced by what they promise. The tail has at most 32 places, by the cone's dims. Assumes
-- nothing.
use Rattle.std.proofs.Common.{◌≡◌, ℕ, ◌+◌, ◌≤◌, List, ◌++◌, length, drop, arith, length-drop, rules}
use lib.ListN.{length-map}
use lib.Seq.{sets}
use lib.Ieee.{Float, neg}
use Rattle.double.specs.Operators.{◌⊖◌, ◌⊗◌, ◌⊘◌}
use Rattle.double.specs.Numbers.{#1, #2}
use Rattle.cone.specs.Points.{padded}
use Rattle.genpowcone.specs.loops.Places.{times, grad_head, heads_of}
use Rattle.cone.proofs.Written.{zip_length, head-and-tail}
use Rattle.genpowcone.specs.Rank3.{rank3_at}
use Rattle.genpowcone.proofs.rank3.Goals as goal

-- the gradient's tail behind its head; where z has fewer places than α, it has no tail
grad-as
    : (α z : List Float) (φ ζ c : Float)
    → length α ≤ 32 → length z ≤ length α + 32
    → sets (padded 64 (grad_head α z φ ζ)) (length α) (times c (drop (length α) z))
    ≡ padded 64 (grad_head α z φ ζ ++ times c (drop (length α) z))
grad-as α z φ ζ c h k =
    let w = drop (length α) z in
    let head = zip_length (λ (a x : Float). neg (#2 ⊗ a ⊘ x) ⊗ φ ⊘ ζ ⊖ (#1 ⊖ a) ⊘ x) α z in
    let tail = length-map w (λ (x : Float). c ⊗ x) in
    let behind = length-drop (length α) z in
    head-and-tail 64 (grad_head α z φ ζ) (times c w) (length α) (λ some. omega (arith, head, tail, behind)) (omega (arith, tail, behind))

-- τ has 32 places
at_most : (n m : ℕ) → n ≤ 32 → m ≡ 32 → n ≤ m
at_most n m h e = omega arith

pub times_from-grad-requires : goal.times_from-grad-requires
times_from-grad-requires c = rw c.tail-w.ensures (simp length-drop (omega arith))

pub p_of-p-requires : goal.p_of-p-requires
p_of-p-requires c =
    let pre = c.requires in
    (pre.0, rw c.tail-w.ensures (simp length-drop (omega (arith, pre.1))))

pub times32-r-requires : goal.times32-r-requires
times32-r-requires c =
    rw c.tail-w.ensures (simp length-drop (omega (arith, c.requires.1)))

pub returns : goal.returns
unfolding rank3_at heads_of
returns c =
    let a = c.args in
    simp (
      c.times32-r.ensures,
      c.q_of-q.ensures,
      c.p_of-p.ensures,
      c.diagonal-d1.ensures,
      c.coefficients_of-c.ensures,
      c.times_from-grad.ensures,
      c.tau_and_grad-heads.ensures,
      c.tail-w.ensures,
      grad-as a.alpha.now a.z.now a.phi (a.phi ⊖ a.norm2w) (#2 ⊘ (a.phi ⊖ a.norm2w)) c.requires.0 c.requires.1,
    )

pub diagonal-d1-requires : goal.diagonal-d1-requires
diagonal-d1-requires c = (omega arith, at_most _ _ (omega arith) (search rules))
