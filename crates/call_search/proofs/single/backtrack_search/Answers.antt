-- A call that its rows refuse leaves with their number, one that they let through hands the search's outcome on. Assumes nothing.
use mathlib.Core.Path.{◌∙◌, refl, ap}
use Rattle.cone.proofs.table.Settled.{refused_by, done_by, ok_code}
use Rattle.call_search.proofs.single.LetThrough.{searchable}
use Rattle.call_search.specs.single.Entries.{found, backtrack_search_of}
use Rattle.call_search.proofs.single.backtrack_search.Goals as goal

pub returns-in-Err : goal.returns-in-Err
unfolding backtrack_search_of
returns-in-Err c = simp c.refused.ensures (refused_by _ _ _ _ _ _ c.search_rows.ensures c.in-Err.is refl)

pub backtrack_search-searched-requires : goal.backtrack_search-searched-requires
backtrack_search-searched-requires c = searchable _ _ _ _ _ (ok_code _ _ _ c.search_rows.ensures c.in_default.is)

pub returns : goal.returns
unfolding backtrack_search_of
returns c =
    simp c.from.ensures (ap found c.backtrack_search-searched.ensures ∙ done_by _ _ _ _ _ c.search_rows.ensures c.in_default.is)
