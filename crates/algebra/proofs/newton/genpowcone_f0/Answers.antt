-- `genpowcone_f0` meets its contract: after i turns the loop holds the first i terms. Assumes nothing.
use Rattle.std.proofs.Common.{length, ◌∙◌, arith}
use Rattle.std.proofs.lemmas.Iterator.{YieldsList-from_slice, YieldsList-from_zip}
use Rattle.std.proofs.lemmas.Iterator.Consumers.{YieldsList-turn, YieldsList-end}
use Rattle.std.proofs.lemmas.List.{length-append}
use Rattle.arith.proofs.Turns.{iter-none, iter-next, iter_end}
use Rattle.algebra.proofs.Mapped.{mapped_length, mapped_place}
use Rattle.algebra.specs.newton.Equations.{gen_f0_at}
use Rattle.algebra.specs.newton.Ratios.{ratio_of}
use Rattle.algebra.proofs.newton.Ratios.{ratio_of_nan}
use Rattle.algebra.proofs.newton.Heads.{three_turns, three_places}
use Rattle.algebra.proofs.newton.genpowcone_f0.Goals as goal

pub loop-a-init : goal.loop-a-init
loop-a-init c = iter-none _ _

pub loop-a-preserved : goal.loop-a-preserved
loop-a-preserved c =
    let g = c.args.g in
    let same = mapped_length ratio_of g.alpha.now _ g.ratios_of_alpha in
    let heads = YieldsList-from_zip (YieldsList-from_slice g.alpha.now (cc)) (YieldsList-from_slice g.ratios.now (cc)) in
    let road = YieldsList-from_zip heads (YieldsList-from_slice g.logs.now (cc)) in
    let t = YieldsList-turn road _ _ c.loop-a.yielded_by _ c.next.new.self _ c.in-Some.is c.next.ensures.steps in
    let p = three_places g.alpha.now g.ratios.now g.logs.now same (length c.loop-a.yielded) _ t.0 t.1 in
    let ratio = p.1 ∙ mapped_place ratio_of g.alpha.now _ g.ratios_of_alpha ratio_of_nan (length c.loop-a.yielded) in
    rw (length-append, c.log.ensures, p.0, ratio, p.2) (iter-next _ _ _ c.loop-a.invariant)

pub returns : goal.returns
unfolding gen_f0_at
returns c =
    let g = c.args.g in
    let same = mapped_length ratio_of g.alpha.now _ g.ratios_of_alpha in
    let heads = YieldsList-from_zip (YieldsList-from_slice g.alpha.now (cc)) (YieldsList-from_slice g.ratios.now (cc)) in
    let road = YieldsList-from_zip heads (YieldsList-from_slice g.logs.now (cc)) in
    let e = YieldsList-end road _ _ c.loop-a.yielded_by _ c.next.new.self c.in-None.is c.next.ensures.steps in
    let n = e.1 ∙ three_turns g.alpha.now g.ratios.now g.logs.now same in
    rw (← c.log-f.ensures) (iter_end _ _ _ _ c.loop-a.invariant (omega (arith, n)) (omega (arith, n)))
