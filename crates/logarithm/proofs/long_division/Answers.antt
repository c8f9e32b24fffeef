-- `long_division` meets its contract: each rest is below n, so a digit more fits, and the sum of the digits is the quotient, which is below
-- 2^51. Assumes nothing.
use Rattle.std.proofs.Common.{◌*◌, ◌%◌, mod-lt, arith}
use Rattle.logarithm.proofs.LongDivision.{five_digits, quotient_small}
use Rattle.logarithm.proofs.long_division.Goals as goal

pub overflow_mul-b : goal.overflow_mul-b
overflow_mul-b c = omega (arith, mod-lt (c.args.d * 1048576) {m = c.args.n} c.requires.1)

pub overflow_mul-c : goal.overflow_mul-c
overflow_mul-c c = omega (arith, mod-lt (c.args.d * 1048576 % c.args.n * 1024) {m = c.args.n} c.requires.1)

pub overflow_mul-e : goal.overflow_mul-e
overflow_mul-e c = omega (arith, mod-lt (c.args.d * 1048576 % c.args.n * 1024 % c.args.n * 1024) {m = c.args.n} c.requires.1)

pub overflow_mul-f : goal.overflow_mul-f
overflow_mul-f c =
    omega (arith, mod-lt (c.args.d * 1048576 % c.args.n * 1024 % c.args.n * 1024 % c.args.n * 1024) {m = c.args.n} c.requires.1)

pub overflow_mul-result : goal.overflow_mul-result
overflow_mul-result c =
    omega (arith, five_digits c.args.n c.requires.1 c.args.d, quotient_small c.args.n c.requires.1 c.args.d c.requires.2)

pub overflow_mul-result-2 : goal.overflow_mul-result-2
overflow_mul-result-2 c =
    omega (arith, five_digits c.args.n c.requires.1 c.args.d, quotient_small c.args.n c.requires.1 c.args.d c.requires.2)

pub overflow_add-result : goal.overflow_add-result
overflow_add-result c =
    omega (arith, five_digits c.args.n c.requires.1 c.args.d, quotient_small c.args.n c.requires.1 c.args.d c.requires.2)

pub overflow_mul-result-3 : goal.overflow_mul-result-3
overflow_mul-result-3 c =
    omega (arith, five_digits c.args.n c.requires.1 c.args.d, quotient_small c.args.n c.requires.1 c.args.d c.requires.2)

pub overflow_add-result-2 : goal.overflow_add-result-2
overflow_add-result-2 c =
    omega (arith, five_digits c.args.n c.requires.1 c.args.d, quotient_small c.args.n c.requires.1 c.args.d c.requires.2)

pub overflow_mul-result-4 : goal.overflow_mul-result-4
overflow_mul-result-4 c =
    omega (arith, five_digits c.args.n c.requires.1 c.args.d, quotient_small c.args.n c.requires.1 c.args.d c.requires.2)

pub overflow_add-result-3 : goal.overflow_add-result-3
overflow_add-result-3 c =
    omega (arith, five_digits c.args.n c.requires.1 c.args.d, quotient_small c.args.n c.requires.1 c.args.d c.requires.2)

pub overflow_add-result-4 : goal.overflow_add-result-4
overflow_add-result-4 c =
    omega (arith, five_digits c.args.n c.requires.1 c.args.d, quotient_small c.args.n c.requires.1 c.args.d c.requires.2)

pub returns : goal.returns
returns c = five_digits c.args.n c.requires.1 c.args.d
