-- The measure of `put_decimal`: the number. Assumes nothing.
use Rattle.octets.proofs.decimal.+put_decimal.Given as goal

abbrev pub decreases-put_decimal : goal.decreases-put_decimal
decreases-put_decimal l = l.n
