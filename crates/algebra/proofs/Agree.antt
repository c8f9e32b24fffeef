-- 01: "For each, show that any two outcomes allowed by it agree". Every contract here is one equation.
-- Not here: `head` and `tail`, which hand back a part of the slice that they were lent; their contracts fix what the part holds, not where
-- it lies. Assumes nothing.
use Rattle.std.proofs.Common.{sym, ◌∙◌}
use Rattle.arith.specs.Outcomes.{OneAnswer}
use Rattle.algebra.proofs.sym3.mul.Reads as mul
use Rattle.algebra.proofs.sym3.quad_form.Reads as quad_form
use Rattle.algebra.proofs.sym3.norm_fro.Reads as norm_fro
use Rattle.algebra.proofs.sym3.scaled_from.Reads as scaled_from
use Rattle.algebra.proofs.sym3.outer.Reads as outer
use Rattle.algebra.proofs.sym3.cholesky_3x3_explicit_factor.Reads as cholesky_3x3_explicit_factor
use Rattle.algebra.proofs.sym3.cholesky_3x3_explicit_solve.Reads as cholesky_3x3_explicit_solve
use Rattle.algebra.proofs.vector.dot.Reads as dot
use Rattle.algebra.proofs.vector.sum.Reads as sum
use Rattle.algebra.proofs.vector.sumsq.Reads as sumsq
use Rattle.algebra.proofs.vector.norm.Reads as norm
use Rattle.algebra.proofs.vector.mean.Reads as mean
use Rattle.algebra.proofs.vector.dot3.Reads as dot3
use Rattle.algebra.proofs.vector.moved3.Reads as moved3
use Rattle.algebra.proofs.vector.shift3.Reads as shift3
use Rattle.algebra.proofs.vector.normalize3.Reads as normalize3

pub mul_agrees : OneAnswer mul.Post
mul_agrees κs a x y s t p q = p ∙ sym q

pub quad_form_agrees : OneAnswer quad_form.Post
quad_form_agrees κs a x y s t p q = p ∙ sym q

pub norm_fro_agrees : OneAnswer norm_fro.Post
norm_fro_agrees κs a x y s t p q = p ∙ sym q

pub scaled_from_agrees : OneAnswer scaled_from.Post
scaled_from_agrees κs a x y s t p q = p ∙ sym q

pub outer_agrees : OneAnswer outer.Post
outer_agrees κs a x y s t p q = p ∙ sym q

pub cholesky_3x3_explicit_factor_agrees : OneAnswer cholesky_3x3_explicit_factor.Post
cholesky_3x3_explicit_factor_agrees κs a x y s t p q = p ∙ sym q

pub cholesky_3x3_explicit_solve_agrees : OneAnswer cholesky_3x3_explicit_solve.Post
cholesky_3x3_explicit_solve_agrees κs a x y s t p q = p ∙ sym q

pub dot_agrees : OneAnswer dot.Post
dot_agrees κs a x y s t p q = p ∙ sym q

pub sum_agrees : OneAnswer sum.Post
sum_agrees κs a x y s t p q = p ∙ sym q

pub sumsq_agrees : OneAnswer sumsq.Post
sumsq_agrees κs a x y s t p q = p ∙ sym q

pub norm_agrees : OneAnswer norm.Post
norm_agrees κs a x y s t p q = p ∙ sym q

pub mean_agrees : OneAnswer mean.Post
mean_agrees κs a x y s t p q = p ∙ sym q

pub dot3_agrees : OneAnswer dot3.Post
dot3_agrees κs a x y s t p q = p ∙ sym q

pub moved3_agrees : OneAnswer moved3.Post
moved3_agrees κs a x y s t p q = p ∙ sym q

pub shift3_agrees : OneAnswer shift3.Post
shift3_agrees κs a x y s t p q = p ∙ sym q

pub normalize3_agrees : OneAnswer normalize3.Post
normalize3_agrees κs a x y s t p q = p ∙ sym q
