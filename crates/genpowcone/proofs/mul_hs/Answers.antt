-- `mul_hs` is its definition: the calls are replaced by what they promise, the last first. Assumes nothing.
use Rattle.std.proofs.Common.{◌≡◌, ℕ, ◌+◌, ◌≤◌, List, ◌++◌, length, take, drop, ap, ◌∙◌, arith, length-append, length-drop, length-take, rules}
use lib.Seq.{sets}
use lib.Ieee.{Float}
use Rattle.double.specs.Operators.{◌⊕◌, ◌⊗◌}
use Rattle.double.specs.Numbers.{#1}
use Rattle.algebra.specs.Vectors.{dot_of}
use Rattle.cone.specs.Points.{padded}
use Rattle.genpowcone.specs.loops.Places.{product_head, product_tail, finished}
use Rattle.cone.proofs.Written.{head-and-tail}
use Rattle.genpowcone.proofs.loops.Arrays.{zip_padded, product-head-length, product-tail-length}
use Rattle.genpowcone.specs.Rank3.{mul_hs_at}
use Rattle.genpowcone.proofs.mul_hs.Goals as goal

-- y's tail behind its head, and as many of its places finished as x has
product-as
    : (p q r d1 : List Float) (d2 cq cr cp μ : Float) (dim1 : ℕ) (x : List Float)
    → length q ≡ 32 → length r ≡ 32 → length d1 ≡ 32 → dim1 ≤ 32 → length x ≤ dim1 + 32
    → padded 64
    (take (length x) (finished (sets (padded 64 (product_head d1 q cq (take dim1 x))) dim1 (product_tail d2 r cr (drop dim1 x))) cp p μ))
    ≡ padded 64 (finished (product_head d1 q cq (take dim1 x) ++ product_tail d2 r cr (drop dim1 x)) cp p μ)
product-as p q r d1 d2 cq cr cp μ dim1 x q-long r-long d1-long h k =
    let x1 = take dim1 x in
    let x2 = drop dim1 x in
    let y1 = product_head d1 q cq x1 in
    let y2 = product_tail d2 r cr x2 in
    let cut1 = length-take dim1 x in
    let cut2 = length-drop dim1 x in
    let head = product-head-length d1 q cq x1 (omega (arith, cut1)) (omega (arith, cut1)) in
    let tail = product-tail-length d2 r cr x2 (omega (arith, cut2)) in
    let all : length x ≡ length (y1 ++ y2) = omega (arith, length-append y1 y2, head, tail, cut1, cut2) in
    let scaled : Float → Float → Float = λ a b. (cp ⊗ a ⊕ #1 ⊗ b) ⊗ μ in
    ap (λ (y : List Float). padded 64 (take (length x) (finished y cp p μ)))
    (head-and-tail 64 y1 y2 dim1 (λ some. omega (arith, head, tail, cut1, cut2)) (omega (arith, tail, cut2)))
    ∙ ap (λ (n : ℕ). padded 64 (take n (finished (padded 64 (y1 ++ y2)) cp p μ))) all
    ∙ ap (padded 64) (zip_padded scaled 64 p (y1 ++ y2))

pub product_head-y1-requires : goal.product_head-y1-requires
product_head-y1-requires c =
    rw c.head-x1.ensures (simp length-take (omega arith, omega arith, omega arith))

pub product_tail-y-requires : goal.product_tail-y-requires
product_tail-y-requires c =
    rw c.tail-x2.ensures (simp length-drop (omega arith, omega arith))

pub returns : goal.returns
unfolding mul_hs_at
returns c =
    let a = c.args in
    simp (
      c.product_finished.ensures,
      c.product_tail-y.ensures,
      c.product_head-y1.ensures,
      c.dot-coef_r.ensures,
      c.dot-coef_q.ensures,
      c.dot-coef_p.ensures,
      c.tail-x2.ensures,
      c.head-x1.ensures,
      product-as a.p.now a.q.now a.r.now a.d1.now a.d2 (dot_of a.q.now (take a.dim1 a.x.now))
          (dot_of a.r.now (drop a.dim1 a.x.now)) (dot_of a.p.now a.x.now) a.mu a.dim1 a.x.now
          (search rules) (search rules) (search rules) c.requires.0 c.requires.1,
    )

pub product_finished-requires : goal.product_finished-requires
product_finished-requires c = (omega arith, omega arith, omega arith)
