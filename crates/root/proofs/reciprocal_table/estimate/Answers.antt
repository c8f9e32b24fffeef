-- `estimate` meets its contract: the place is in the table. Assumes nothing.
use mathlib.Core.Path.{sym, ap, subst, ◌∙◌}
use Prim.Native.Nat.{ℕ, ◌<◌}
use lib.ListN.{get_or}
use Rattle.root.specs.reciprocal_table.Estimates.{estimates, estimate_of}
use Rattle.root.proofs.reciprocal_table.EstimateRule.{place_lt}
use Rattle.root.proofs.reciprocal_table.estimate.Goals as goal

pub entry-requires : goal.entry-requires
entry-requires c = subst (λ (k : ℕ). k < 128) (sym c.place.ensures) (place_lt c.args.m c.requires.1)

pub returns : goal.returns
unfolding estimate_of
returns c = c.entry.ensures ∙ ap (λ (i : ℕ). get_or estimates i 0) c.place.ensures
