-- What an answer is made of, by the cone's kind and by side: sign tests, residue, margin; and the test of document 01 before Order 5.
-- Definitions only.
use Rattle.std.specs.Prelude.{Bool, false, cond, ◌&&◌, List, take, Float}
use Rattle.double.specs.Operators.{◌≺◌, at}
use Rattle.double.specs.Numbers.{#0}
use Rattle.cone.specs.declared.Cone.{Cone}
use Rattle.cone.specs.Codes.{by_kind}
use Rattle.cone.specs.Points.{three_of}
use Rattle.expcone.specs.feasible.Feasible as expcone
use Rattle.powcone.specs.Feasible as powcone
use Rattle.genpowcone.specs.Feasible as genpowcone

unfoldable pub signs_of : Cone → Bool → List Float → Bool
signs_of c primal p =
    by_kind c.kind
    (cond primal (expcone.primal_signs (three_of p)) (expcone.dual_signs (three_of p)))
    (powcone.signs (three_of p))
    (genpowcone.signs (take c.dim1 c.exps) p)
    false

unfoldable pub residue_of : Cone → Bool → List Float → Float
residue_of c primal p =
    let α = take c.dim1 c.exps in
    let β = at c.exps 0 in
    by_kind c.kind
    (cond primal (expcone.primal_residue (three_of p)).res (expcone.dual_residue (three_of p)).res)
    (cond primal (powcone.primal_residue β (three_of p)).res (powcone.dual_residue β (three_of p)).res)
    (cond primal (genpowcone.primal_residue α p).res (genpowcone.dual_residue α p).res)
    #0

unfoldable pub margin_of : Cone → Bool → List Float → Float
margin_of c primal p =
    let α = take c.dim1 c.exps in
    let β = at c.exps 0 in
    by_kind c.kind
    (cond primal (expcone.primal_margin (three_of p)) (expcone.dual_margin (three_of p)))
    (cond primal (powcone.primal_margin β (three_of p)) (powcone.dual_margin β (three_of p)))
    (cond primal (genpowcone.primal_margin α p) (genpowcone.dual_margin α p))
    #0

-- 000, 001, 002 is_primal_feasible and is_dual_feasible, as they stand: the signs, and a residue above 0
abbrev pub passed_before : Cone → Bool → List Float → Bool
passed_before c primal p = signs_of c primal p && (#0 ≺ residue_of c primal p)
