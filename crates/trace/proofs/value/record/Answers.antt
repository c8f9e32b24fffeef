-- `record` meets its contract: where the trace is good and has record i, the Reader at the list's entry i finds it. Assumes nothing.
use Rattle.trace.proofs.value.Numbered.{no_such, entry_inside, never_none, found_inside, numbered}
use Rattle.trace.proofs.value.Finding.{find_none, find_some, find_of}
use native.Mathlib.Omega.{arith}
use mathlib.Core.Path.{◌∙◌}
use Rattle.trace.proofs.value.record.Goals as goal

pub returns-then-opened-i : goal.returns-then-opened-i
returns-then-opened-i c = c.refused_record.ensures ∙ no_such _ _ _ c.open-opened.ensures c.if-opened-i.true

pub overflow_add-list : goal.overflow_add-list
overflow_add-list c = omega (arith, entry_inside _ _ _ c.open-opened.ensures c.if-opened-i.false, c.well_formed.0)

pub returns-in_default : goal.returns-in_default
returns-in_default c =
    absurd (never_none _ _ _ c.open-opened.ensures c.if-opened-i.false _ c.u64_at-at.ensures _ c.front-body.ensures
    (find_none c.front-body.result.now c.u64_at-at.result c.open-opened.result.edition _ c.find.ensures.shape c.in_default.is))

pub recorded-requires : goal.recorded-requires
recorded-requires c =
    let is = find_some c.front-body.result.now c.u64_at-at.result c.open-opened.result.edition _
    c.find.ensures.shape c.in-Some.found c.in-Some.is in
    omega (
      arith,
      found_inside _ _ _ c.open-opened.ensures c.if-opened-i.false _ c.u64_at-at.ensures _ c.front-body.ensures _ is,
      c.well_formed.0,
    )

pub returns : goal.returns
returns c =
    let of = find_of c.front-body.result.now c.u64_at-at.result c.open-opened.result.edition _
    c.find.ensures.shape c.find.ensures.bytes c.in-Some.found c.in-Some.is in
    c.recorded.ensures
    ∙ rw of.0 (numbered _ _ _ c.open-opened.ensures c.if-opened-i.false _ c.u64_at-at.ensures _ c.front-body.ensures _ of.1)
