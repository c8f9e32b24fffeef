-- `set_tail` meets its contract: the tail's places are filled, and the others stay. Assumes nothing.
use Rattle.std.proofs.Common.{rules, ◌≡◌, ◌+◌, List, ◌++◌, length, take, drop, replicate, sym, refl, ap, ◌∙◌, arith, take_all}
use Rattle.std.proofs.lemmas.List.Edits.{sets-eq}
use Rattle.std.proofs.lemmas.Slice.{put_mid-paste}
use lib.ListN.{length-replicate}
use lib.Ieee.{Float}
use Rattle.genpowcone.proofs.loops.places.set_tail.Goals as goal

pub returns : goal.returns
returns c =
    let g = c.args.g0 in
    let n = c.args.n in
    let vs = replicate c.args.m c.args.v in
    let filled : c.fill.new.self ≡ vs = search rules in
    put_mid-paste n _ g c.fill.new.self vs (length vs) filled (omega (arith, length-replicate c.args.m c.args.v)) refl
    ∙ ap (λ (l : List Float). take n g ++ l ++ drop (n + length vs) g) (take_all (length vs) vs (omega arith))
    ∙ sym (sets-eq vs g n (omega (arith, length-replicate c.args.m c.args.v)))
