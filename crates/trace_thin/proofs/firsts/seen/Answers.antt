-- `seen` meets its contract. The loop's invariant: the pieces that were passed are other ones, so that those that are left decide, and what is
-- left of the numbers is theirs. Assumes nothing.
use mathlib.Core.Path.{◌≡◌, sym, ◌∙◌}
use mathlib.Core.Logic.{inl, inr}
use lib.ListN.{length}
use Rattle.trace_thin.proofs.firsts.Seeking.{found_here, not-here, numbers_on, none-ahead, not_found}
use Rattle.trace_thin.proofs.firsts.seen.Goals as goal

pub returns-then-alike : goal.returns-then-alike
returns-then-alike c =
    let a = c.args in
    found_here a.bytes.now a.piece.now a.places.now _ _ _ c.in-Some.ensures.steps.0 c.loop-place.invariant.3
    (sym c.if-alike.true ∙ c.alike.ensures)

pub loop-place-preserved : goal.loop-place-preserved
loop-place-preserved c =
    let a = c.args in
    let l = c.loop-place.invariant in
    let steps = c.in-Some.ensures.steps in (
      (tt, tt),
      tt,
      numbers_on a.bytes.now a.piece.now a.places.now _ _ _ steps.0 l.3 _ _ _ steps.1 l.2,
      not-here a.bytes.now a.piece.now a.places.now _ _ _ steps.0 l.3 (sym c.if-alike.false ∙ c.alike.ensures),
    )

pub returns : goal.returns
returns c =
    let a = c.args in
    let l = c.loop-place.invariant in
    let ahead = c.loop-place.place-iterator.a.rest.now in
    let end : length ahead ≡ 0 = elim c.in-None.ensures.steps [
      | inl p ↦ p.1.0
      | inr p ↦ none-ahead a.bytes.now ahead _ p.1.0 l.2
    ] in
    not_found a.bytes.now a.piece.now a.places.now ahead l.3 end
