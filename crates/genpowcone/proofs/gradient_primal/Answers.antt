-- `gradient_primal` is its definition, whether norm_r is above ε or not; the logarithms of the heads stand in the first places of an array.
-- Assumes nothing.
use Rattle.std.proofs.Common.{◌≡◌, ℕ, ◌+◌, ◌≤◌, true, List, ◌++◌, map, length, take, drop, ap, ◌∙◌, arith, length-drop, length-take}
use lib.ListN.{length-map}
use lib.Seq.{sets}
use lib.Ieee.{Float, neg}
use Rattle.double.specs.Operators.{◌⊕◌, ◌⊗◌, ◌⊘◌, ◌≺◌}
use Rattle.double.specs.Numbers.{#1, #ε}
use Rattle.kernels.specs.Door.{log_of}
use Rattle.algebra.specs.Vectors.{sumsq_of, norm_of}
use Rattle.algebra.specs.newton.Equations.{gen_f0, gen_f0_at, gen_f1}
use Rattle.algebra.specs.newton.Rounds.{newton_of}
use Rattle.algebra.specs.declared.newton.Solved.{Solved}
use Rattle.genpowcone.specs.loops.Folds.{primal_phi}
use Rattle.cone.specs.Points.{padded}
use Rattle.cone.proofs.Points.{padded_front}
use Rattle.genpowcone.specs.loops.Places.{times, gradient_head}
use Rattle.cone.proofs.Written.{zip_length, head-and-tail}
use Rattle.genpowcone.specs.PrimalGradient.{gradient_primal_of, newton_raphson_genpowcone_of, psi_of, x0_of}
use Rattle.genpowcone.specs.declared.WideGradient.{WideGradient}
use Rattle.genpowcone.proofs.gradient_primal.Goals as goal

-- Newton's answer, by what it was given
newton-as
    : (r : Float) (α p logs : List Float) (φ q : Float)
    → logs ≡ map log_of p → φ ≡ primal_phi α p → q ≡ sumsq_of α
    → newton_of (gen_f0_at r α logs) (gen_f1 r α) (x0_of r φ (#1 ⊘ q)) ≡ newton_raphson_genpowcone_of r p (primal_phi α p) α (psi_of α)
unfolding newton_raphson_genpowcone_of gen_f0 psi_of
newton-as r α p logs φ q l f s = rw (l, f, s)

-- the tail behind the head; where the point has fewer places than α, it has no tail
both-parts
    : (α s p r : List Float) (g1 n c : Float)
    → p ≡ take (length α) s → r ≡ drop (length α) s → length α ≤ 64 → length s ≤ 64
    → sets (padded 64 (gradient_head α p g1 n)) (length α) (times c r) ≡ padded 64 (gradient_head α p g1 n ++ times c r)
both-parts α s p r g1 n c e d h k =
    let head = zip_length (λ (a x : Float). neg (#1 ⊕ a ⊕ a ⊗ g1 ⊗ n) ⊘ x) α p in
    let tail = length-map r (λ (x : Float). c ⊗ x) in
    let heads = ap length e ∙ length-take (length α) s in
    let tails = ap length d ∙ length-drop (length α) s in
    head-and-tail 64 (gradient_head α p g1 n) (times c r) (length α)
    (λ some. omega (arith, head, tail, heads, tails)) (omega (arith, tail, tails))

abbrev made : List Float → ℕ → WideGradient
made g k = record { g = g; rounds = k }

gradient-as
    : (α s r p : List Float) (n : Float) (f : Solved)
    → p ≡ take (length α) s → r ≡ drop (length α) s → n ≡ norm_of r → (#ε ≺ n) ≡ true
    → f ≡ newton_raphson_genpowcone_of n p (primal_phi α p) α (psi_of α)
    → made (padded 64 (gradient_head α p f.x n ++ times (f.x ⊘ n) r)) f.rounds ≡ gradient_primal_of α s
unfolding gradient_primal_of
gradient-as α s r p n f e d g t h = simp (← e, ← d, ← g, t, h)

-- no more heads than exponents
pub logarithms-logs_of_p-requires : goal.logarithms-logs_of_p-requires
logarithms-logs_of_p-requires c = rw c.head-p.ensures (simp length-take (omega arith))

logs-held : (p : List Float) {held l : List Float} → held ≡ padded 64 (map log_of p) → l ≡ take (length p) held → l ≡ map log_of p
logs-held p e f = f ∙ ap (take (length p)) e ∙ padded_front 64 (map log_of p) (length p) (length-map p log_of)

pub primal_phi-phi-requires : goal.primal_phi-phi-requires
primal_phi-phi-requires c = logs-held c.head-p.result.now c.logarithms-logs_of_p.ensures c.head-logs.ensures

-- exponents and tail together are as many as the point's places, or as the exponents
tail_fits : (α s : List Float) {w : List Float} → length α ≤ 64 → length s ≤ 64 → w ≡ drop (length α) s → length α + length w ≤ 64
tail_fits α s h k e = omega (arith, ap length e ∙ length-drop (length α) s)

pub times_from-g-requires : goal.times_from-g-requires
times_from-g-requires c =
    tail_fits c.args.alpha.now c.args.s.now c.requires.0 c.requires.1 c.tail-r.ensures

pub returns-then-norm_r : goal.returns-then-norm_r
returns-then-norm_r c =
    let α = c.args.alpha.now in
    let s = c.args.s.now in
    let p = c.head-p.result.now in
    let r = c.tail-r.result.now in
    let n = c.norm-norm_r.result in
    let f = c.newton_raphson_genpowcone-found.result in
    let found = newton-as _ _ _ _ _ _ (logs-held p c.logarithms-logs_of_p.ensures c.head-logs.ensures) c.primal_phi-phi.ensures c.sumsq-psi.ensures in
    ap (λ (g : List Float). made g f.rounds)
    (c.times_from-g.ensures
    ∙ ap (λ (l : List Float). sets l (length α) (times (f.x ⊘ n) r)) c.gradient_head-gp.ensures
    ∙ both-parts α s p r f.x n (f.x ⊘ n) c.head-p.ensures c.tail-r.ensures c.requires.0 c.requires.1)
    ∙ gradient-as α s r p n f c.head-p.ensures c.tail-r.ensures c.norm-norm_r.ensures
    c.if-norm_r.true
    (c.newton_raphson_genpowcone-found.ensures ∙ found)

pub returns-else-norm_r : goal.returns-else-norm_r
unfolding gradient_primal_of
returns-else-norm_r c =
    simp (
      ← c.head-p.ensures,
      ← c.tail-r.ensures,
      ← c.norm-norm_r.ensures,
      c.if-norm_r.false,
      c.gradient_flat_head-g.ensures,
    )
