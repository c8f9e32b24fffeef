-- `primal_phi` meets its contract: its fold takes the turns of the definition, with the logarithm that stands beside each place of the head.
-- Assumes nothing.
use Rattle.std.proofs.Common.{rules, ◌≡◌, List, [], ◌∷◌, map, refl, ap, ◌∙◌}
use Rattle.std.specs.Prelude.{fold, zip}
use Rattle.std.proofs.lemmas.Iterator.{YieldsList-from_slice, YieldsList-from_zip}
use Rattle.std.proofs.lemmas.Iterator.Consumers.{YieldsList-at, fold_from_yields_List}
use lib.Ieee.{Float}
use Rattle.double.specs.Operators.{◌⊗◌}
use Rattle.double.specs.Numbers.{#1, #2}
use Rattle.kernels.specs.Door.{log_of, power_at, powf_of}
use Rattle.genpowcone.specs.loops.Folds.{primal_phi}
use Rattle.genpowcone.proofs.loops.Turns.{zip_turns}
use Rattle.genpowcone.proofs.loops.folds.primal_phi.Goals as goal

abbrev turn : Float → Float × (Float × Float) → Float
turn t p = t ⊗ power_at p.1.0 (#2 ⊗ p.0) p.1.1

-- a list beside its own logarithms
beside-logs
    : (t : Float) (α xs : List Float)
    → fold turn t (zip α (zip xs (map log_of xs)))
    ≡ fold (λ (u : Float) (p : Float × Float). turn u (p.0, (p.1, log_of p.1))) t (zip α xs)
beside-logs t [] xs = refl
beside-logs t (a ∷ α) [] = refl
beside-logs t (a ∷ α) (x ∷ xs) = beside-logs (turn t (a, (x, log_of x))) α xs

pub returns : goal.returns
unfolding primal_phi powf_of
returns c =
    let α = c.args.alpha.now in
    let p = c.args.p.now in
    fold_from_yields_List _ turn #1 _ c.fold.ensures.ran
    (YieldsList-from_zip (YieldsList-from_slice α cc)
    (YieldsList-at c.zip-2.ensures.second (YieldsList-from_zip (YieldsList-from_slice p cc) (YieldsList-from_slice c.args.logs.now cc))))
    (λ t x u q k. search rules)
    ∙ ap (λ (l : List Float). fold turn #1 (zip α (zip p l))) c.requires
    ∙ beside-logs #1 α p
    ∙ zip_turns (λ (t a x : Float). turn t (a, (x, log_of x))) #1 α p
