-- 01: "For each, show that any two outcomes allowed by it agree". Every contract here is one equation. Assumes nothing.
use mathlib.Core.Path.{◌∙◌, sym}
use Rattle.arith.specs.Outcomes.{OneAnswer}
use Rattle.cone.proofs.table.Codes.{one_code}
use Rattle.cone.proofs.table.no_faults.Reads as no_faults
use Rattle.cone.proofs.table.code.Reads as code
use Rattle.cone.proofs.table.Refusal.number.Reads as number
use Rattle.cone.proofs.table.first_row.Reads as first_row
use Rattle.cone.proofs.table.trace_row.Reads as trace_row

pub no_faults_agrees : OneAnswer no_faults.Post
no_faults_agrees κs a x y s t p q = p ∙ sym q

pub code_agrees : OneAnswer code.Post
code_agrees κs a x y s t p q = p ∙ sym q

pub number_agrees : OneAnswer number.Post
number_agrees κs a x y s t p q = p ∙ sym q

pub first_row_agrees : OneAnswer first_row.Post
first_row_agrees κs a x y s t p q = one_code _ x y p q

pub trace_row_agrees : OneAnswer trace_row.Post
trace_row_agrees κs a x y s t p q = one_code _ x y p q
