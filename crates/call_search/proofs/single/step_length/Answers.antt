-- A call that its rows refuse leaves with their number, one that they let through hands both outcomes on. Assumes nothing.
use mathlib.Core.Path.{◌≡◌, ◌∙◌, refl, ap}
use Rattle.cone.proofs.table.Settled.{refused_by, done_by, ok_code}
use Rattle.search.specs.trials.Search.{Outcome}
use Rattle.call_search.proofs.single.LetThrough.{both_searchable}
use Rattle.call_search.specs.single.Entries.{both_found, step_length_of}
use Rattle.call_search.proofs.single.step_length.Goals as goal

both : {d d' p p' : Outcome} → d ≡ d' → p ≡ p' → both_found d p ≡ both_found d' p'
both {d' = d'} {p = p} e f = ap (λ (o : Outcome). both_found o p) e ∙ ap (both_found d') f

pub returns-in-Err : goal.returns-in-Err
unfolding step_length_of
returns-in-Err c = simp c.refused.ensures (refused_by _ _ _ _ _ _ c.step_rows-judged.ensures c.in-Err.is refl)

pub backtrack_search-dual-requires : goal.backtrack_search-dual-requires
backtrack_search-dual-requires c =
    (both_searchable _ _ _ _ _ c.args.dualpoint.now c.args.primalpoint.now _ (ok_code _ _ _ c.step_rows-judged.ensures c.in_default.is)).0

pub backtrack_search-primal-requires : goal.backtrack_search-primal-requires
backtrack_search-primal-requires c =
    (both_searchable _ _ _ _ _ c.args.dualpoint.now c.args.primalpoint.now _ (ok_code _ _ _ c.step_rows-judged.ensures c.in_default.is)).1

pub returns : goal.returns
unfolding step_length_of
returns c =
    both c.backtrack_search-dual.ensures c.backtrack_search-primal.ensures
    ∙ done_by _ _ _ _ _ c.step_rows-judged.ensures c.in_default.is
