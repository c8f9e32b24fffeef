-- `record_at` meets its contract: the record that is found at the place, by value. Assumes nothing.
use mathlib.Core.Path.{sym, ◌∙◌}
use native.Mathlib.Omega.{arith}
use lib.ListN.{drop}
use Rattle.trace_layout.proofs.pieces.Shapes.{none_is_not}
use Rattle.trace.proofs.recording.Judging.{unknown, none_there, one_there}
use Rattle.trace.proofs.value.Finding.{find_none, find_some, find_of}
use Rattle.trace.proofs.reader.Places.{found_inside}
use Rattle.trace.proofs.recording.record_at.Goals as goal

pub returns-then-not-known : goal.returns-then-not-known
returns-then-not-known c =
    let s = c.args in
    c.refused_record.ensures
    ∙ unknown s.bytes.now s.edition s.at (sym c.known.ensures ∙ c.if-not-known.true)

pub returns-in_default : goal.returns-in_default
returns-in_default c =
    let a = c.args in
    c.refused_record-in_default.ensures
    ∙ none_there a.bytes.now a.edition a.at (sym c.known.ensures ∙ c.if-not-known.false)
    (none_is_not a.edition (drop a.at a.bytes.now) (find_none a.bytes.now a.at a.edition _ c.find.ensures.shape c.in_default.is))

pub recorded-requires : goal.recorded-requires
recorded-requires c =
    let a = c.args in
    let is = find_some a.bytes.now a.at a.edition _ c.find.ensures.shape c.in-Some.found c.in-Some.is in
    omega (arith, found_inside a.bytes.now a.at a.edition c.in-Some.found.shape is, c.well_formed.0)

pub returns : goal.returns
returns c =
    let a = c.args in
    let f = c.in-Some.found in
    let is = find_some a.bytes.now a.at a.edition _ c.find.ensures.shape f c.in-Some.is in
    let of = find_of a.bytes.now a.at a.edition _ c.find.ensures.shape c.find.ensures.bytes f c.in-Some.is in
    c.recorded.ensures
    ∙ rw of.0 (one_there a.bytes.now a.edition a.at f.bytes.now of.1 f.shape is (sym c.known.ensures ∙ c.if-not-known.false))
