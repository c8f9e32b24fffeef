-- `genpowcone_f1` meets its contract: after i turns the loop holds the first i terms. Assumes nothing.
use Rattle.std.proofs.Common.{length, ◌∙◌, arith}
use lib.Ieee.{nan}
use Rattle.std.proofs.lemmas.List.{length-append}
use Rattle.std.proofs.lemmas.Slice.Zip.{zip_turn, zip_end}
use Rattle.arith.proofs.Turns.{iter-none, iter-next, iter_end}
use Rattle.algebra.proofs.Mapped.{mapped_length, mapped_place}
use Rattle.algebra.specs.newton.Equations.{gen_f1}
use Rattle.algebra.specs.newton.Ratios.{ratio_of}
use Rattle.algebra.proofs.newton.Ratios.{ratio_of_nan}
use Rattle.algebra.proofs.newton.genpowcone_f1.Goals as goal

pub loop-a-init : goal.loop-a-init
loop-a-init c = iter-none _ _

pub loop-a-preserved : goal.loop-a-preserved
loop-a-preserved c =
    let g = c.args.g in
    let t = zip_turn g.alpha.now g.ratios.now _ _ _ c.next.new.self _ (cc) (cc) c.loop-a.yielded_by _ c.in-Some.is c.next.ensures.steps in
    let ratio = t.3 nan ∙ mapped_place ratio_of g.alpha.now _ g.ratios_of_alpha ratio_of_nan (length c.loop-a.yielded) in
    rw (length-append, t.2 nan, ratio) (iter-next _ _ _ c.loop-a.invariant)

pub returns : goal.returns
unfolding gen_f1
returns c =
    let g = c.args.g in
    let e = zip_end g.alpha.now g.ratios.now _ _ _ c.next.new.self _ (cc) (cc) c.loop-a.yielded_by c.in-None.is c.next.ensures.steps in
    let n = mapped_length ratio_of g.alpha.now _ g.ratios_of_alpha in
    iter_end _ _ _ _ c.loop-a.invariant (omega (arith, e, n)) (omega (arith, e, n))
