-- `of_rows` meets its contract, as `of_row` does: row n is among the rows and j in it, and the arm n asks row n where k is n. Assumes
-- nothing.
use Rattle.std.proofs.Common.{◌≡◌, arith, lit<}
use Rattle.logarithm.proofs.table.of_rows.Goals as goal

pub bounds-rows-0 : goal.bounds-rows-0
bounds-rows-0 c = lit< tt

pub of_row-requires : goal.of_row-requires
of_row-requires c = c.requires.1

pub bounds-rows-1 : goal.bounds-rows-1
bounds-rows-1 c = lit< tt

pub of_row-requires-in-1 : goal.of_row-requires-in-1
of_row-requires-in-1 c = c.requires.1

pub bounds-rows-2 : goal.bounds-rows-2
bounds-rows-2 c = lit< tt

pub of_row-requires-in-2 : goal.of_row-requires-in-2
of_row-requires-in-2 c = c.requires.1

pub bounds-rows-3 : goal.bounds-rows-3
bounds-rows-3 c = lit< tt

pub of_row-requires-in-3 : goal.of_row-requires-in-3
of_row-requires-in-3 c = c.requires.1

pub bounds-rows-4 : goal.bounds-rows-4
bounds-rows-4 c = lit< tt

pub of_row-requires-in-4 : goal.of_row-requires-in-4
of_row-requires-in-4 c = c.requires.1

pub bounds-rows-5 : goal.bounds-rows-5
bounds-rows-5 c = lit< tt

pub of_row-requires-in-5 : goal.of_row-requires-in-5
of_row-requires-in-5 c = c.requires.1

pub bounds-rows-6 : goal.bounds-rows-6
bounds-rows-6 c = lit< tt

pub of_row-requires-in-6 : goal.of_row-requires-in-6
of_row-requires-in-6 c = c.requires.1

pub bounds-rows-7 : goal.bounds-rows-7
bounds-rows-7 c = lit< tt

pub of_row-requires-in-7 : goal.of_row-requires-in-7
of_row-requires-in-7 c = c.requires.1

pub bounds-rows-8 : goal.bounds-rows-8
bounds-rows-8 c = lit< tt

pub of_row-requires-in-8 : goal.of_row-requires-in-8
of_row-requires-in-8 c = c.requires.1

pub bounds-rows-9 : goal.bounds-rows-9
bounds-rows-9 c = lit< tt

pub of_row-requires-in-9 : goal.of_row-requires-in-9
of_row-requires-in-9 c = c.requires.1

pub bounds-rows-10 : goal.bounds-rows-10
bounds-rows-10 c = lit< tt

pub of_row-requires-in-10 : goal.of_row-requires-in-10
of_row-requires-in-10 c = c.requires.1

pub bounds-rows-11 : goal.bounds-rows-11
bounds-rows-11 c = lit< tt

pub of_row-requires-in-11 : goal.of_row-requires-in-11
of_row-requires-in-11 c = c.requires.1

pub bounds-rows-12 : goal.bounds-rows-12
bounds-rows-12 c = lit< tt

pub of_row-requires-in-12 : goal.of_row-requires-in-12
of_row-requires-in-12 c = c.requires.1

pub bounds-rows-13 : goal.bounds-rows-13
bounds-rows-13 c = lit< tt

pub of_row-requires-in-13 : goal.of_row-requires-in-13
of_row-requires-in-13 c = c.requires.1

pub bounds-rows-14 : goal.bounds-rows-14
bounds-rows-14 c = lit< tt

pub of_row-requires-in-14 : goal.of_row-requires-in-14
of_row-requires-in-14 c = c.requires.1

pub bounds-rows-15 : goal.bounds-rows-15
bounds-rows-15 c = lit< tt

pub of_row-requires-in_default : goal.of_row-requires-in_default
of_row-requires-in_default c = c.requires.1

pub returns-in-0 : goal.returns-in-0
returns-in-0 c = rw c.in-0.is c.of_row.ensures

pub returns-in-1 : goal.returns-in-1
returns-in-1 c = rw c.in-1.is c.of_row-in-1.ensures

pub returns-in-2 : goal.returns-in-2
returns-in-2 c = rw c.in-2.is c.of_row-in-2.ensures

pub returns-in-3 : goal.returns-in-3
returns-in-3 c = rw c.in-3.is c.of_row-in-3.ensures

pub returns-in-4 : goal.returns-in-4
returns-in-4 c = rw c.in-4.is c.of_row-in-4.ensures

pub returns-in-5 : goal.returns-in-5
returns-in-5 c = rw c.in-5.is c.of_row-in-5.ensures

pub returns-in-6 : goal.returns-in-6
returns-in-6 c = rw c.in-6.is c.of_row-in-6.ensures

pub returns-in-7 : goal.returns-in-7
returns-in-7 c = rw c.in-7.is c.of_row-in-7.ensures

pub returns-in-8 : goal.returns-in-8
returns-in-8 c = rw c.in-8.is c.of_row-in-8.ensures

pub returns-in-9 : goal.returns-in-9
returns-in-9 c = rw c.in-9.is c.of_row-in-9.ensures

pub returns-in-10 : goal.returns-in-10
returns-in-10 c = rw c.in-10.is c.of_row-in-10.ensures

pub returns-in-11 : goal.returns-in-11
returns-in-11 c = rw c.in-11.is c.of_row-in-11.ensures

pub returns-in-12 : goal.returns-in-12
returns-in-12 c = rw c.in-12.is c.of_row-in-12.ensures

pub returns-in-13 : goal.returns-in-13
returns-in-13 c = rw c.in-13.is c.of_row-in-13.ensures

pub returns-in-14 : goal.returns-in-14
returns-in-14 c = rw c.in-14.is c.of_row-in-14.ensures

pub returns-in_default : goal.returns-in_default
returns-in_default c = let last : c.args.k ≡ 15 = omega arith in rw last c.of_row-in_default.ensures
