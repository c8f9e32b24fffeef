-- `get_hs` hands on the part of d1 in use. Assumes nothing.
use Rattle.kinds.specs.Wide.{get_hs_of}
use Rattle.kinds.proofs.Parts.{part_fits}
use Rattle.kinds.proofs.wide_kind.get_hs.Goals as goal

pub get_hs-requires : goal.get_hs-requires
get_hs-requires c = part_fits _ _ _ c.requires.0 c.requires.1 c.head.ensures

pub returns : goal.returns
unfolding get_hs_of
returns c = simp (← c.head.ensures) c.get_hs.ensures
