-- `of_row` meets its contract: each place is in the row, and the arm k reads the place k where j is k. In the last arm j is below 16 and
-- none of the others. Assumes nothing.
use Rattle.std.proofs.Common.{◌≡◌, arith, lit<}
use Rattle.logarithm.proofs.table.of_row.Goals as goal

pub bounds-row-0 : goal.bounds-row-0
bounds-row-0 c = lit< tt

pub bounds-row-1 : goal.bounds-row-1
bounds-row-1 c = lit< tt

pub bounds-row-2 : goal.bounds-row-2
bounds-row-2 c = lit< tt

pub bounds-row-3 : goal.bounds-row-3
bounds-row-3 c = lit< tt

pub bounds-row-4 : goal.bounds-row-4
bounds-row-4 c = lit< tt

pub bounds-row-5 : goal.bounds-row-5
bounds-row-5 c = lit< tt

pub bounds-row-6 : goal.bounds-row-6
bounds-row-6 c = lit< tt

pub bounds-row-7 : goal.bounds-row-7
bounds-row-7 c = lit< tt

pub bounds-row-8 : goal.bounds-row-8
bounds-row-8 c = lit< tt

pub bounds-row-9 : goal.bounds-row-9
bounds-row-9 c = lit< tt

pub bounds-row-10 : goal.bounds-row-10
bounds-row-10 c = lit< tt

pub bounds-row-11 : goal.bounds-row-11
bounds-row-11 c = lit< tt

pub bounds-row-12 : goal.bounds-row-12
bounds-row-12 c = lit< tt

pub bounds-row-13 : goal.bounds-row-13
bounds-row-13 c = lit< tt

pub bounds-row-14 : goal.bounds-row-14
bounds-row-14 c = lit< tt

pub bounds-row-15 : goal.bounds-row-15
bounds-row-15 c = lit< tt

pub returns-in-0 : goal.returns-in-0
returns-in-0 c = rw c.in-0.is

pub returns-in-1 : goal.returns-in-1
returns-in-1 c = rw c.in-1.is

pub returns-in-2 : goal.returns-in-2
returns-in-2 c = rw c.in-2.is

pub returns-in-3 : goal.returns-in-3
returns-in-3 c = rw c.in-3.is

pub returns-in-4 : goal.returns-in-4
returns-in-4 c = rw c.in-4.is

pub returns-in-5 : goal.returns-in-5
returns-in-5 c = rw c.in-5.is

pub returns-in-6 : goal.returns-in-6
returns-in-6 c = rw c.in-6.is

pub returns-in-7 : goal.returns-in-7
returns-in-7 c = rw c.in-7.is

pub returns-in-8 : goal.returns-in-8
returns-in-8 c = rw c.in-8.is

pub returns-in-9 : goal.returns-in-9
returns-in-9 c = rw c.in-9.is

pub returns-in-10 : goal.returns-in-10
returns-in-10 c = rw c.in-10.is

pub returns-in-11 : goal.returns-in-11
returns-in-11 c = rw c.in-11.is

pub returns-in-12 : goal.returns-in-12
returns-in-12 c = rw c.in-12.is

pub returns-in-13 : goal.returns-in-13
returns-in-13 c = rw c.in-13.is

pub returns-in-14 : goal.returns-in-14
returns-in-14 c = rw c.in-14.is

pub returns-in_default : goal.returns-in_default
returns-in_default c = let last : c.args.j ≡ 15 = omega arith in rw last
