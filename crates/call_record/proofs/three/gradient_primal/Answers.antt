-- A call that its rows refuse leaves with their number; where the Rust would panic the answer is 6, else the published gradient with
-- its count. Assumes nothing.
use mathlib.Core.Path.{refl, ap}
use native.Mathlib.Omega.{arith}
use lib.ListN.{length}
use Rattle.judges.specs.Refusals.{publish_of}
use Rattle.cone.specs.table.Table.{code_of}
use Rattle.cone.proofs.table.Settled.{refused_by, through}
use Rattle.judges.proofs.Outcomes.{with-count}
use Rattle.judges.proofs.Lengths.{same_2}
use Rattle.call_record.specs.three.Entries.{gradient_primal_of}
use Rattle.call_record.proofs.Judging.{let_through, own-numbers}
use borrow.Author.Rules.{rules}
use Rattle.call_record.proofs.three.gradient_primal.Goals as goal

pub returns-in-Err : goal.returns-in-Err
unfolding gradient_primal_of
returns-in-Err c = simp c.refused.ensures (refused_by _ _ _ _ _ _ (own-numbers _ _ _ _ _ c.rows.ensures c.all_finite.ensures) c.in-Err.is refl)

pub returns-in_default-gradient_primal : goal.returns-in_default-gradient_primal
unfolding gradient_primal_of
returns-in_default-gradient_primal c =
    through _ _ _ _ (own-numbers _ _ _ _ _ c.rows.ensures c.all_finite.ensures) (ap code_of c.in_default.is)
    (rw (← c.three_of.ensures, ← c.gradient_primal.ensures, c.in_default-gradient_primal.is, c.refused-in_default-gradient_primal.ensures))

pub publish-published-requires : goal.publish-published-requires
publish-published-requires c =
    let a = c.args in
    let right = (let_through _ c.rows.ensures (ap code_of c.in_default.is)).length in
    omega (arith, (same_2 3 (length a.g.now) (length a.s.now) right).0)

pub returns : goal.returns
unfolding gradient_primal_of
returns c =
    let a = c.in-Some.a in
    through _ _ _ _ (own-numbers _ _ _ _ _ c.rows.ensures c.all_finite.ensures) (ap code_of c.in_default.is)
    (rw (← c.three_of.ensures, ← c.gradient_primal.ensures, c.in-Some.is)
    (with-count (publish_of c.args.g.now a.g) a.rounds c.publish-published.ensures c.counted.ensures))
