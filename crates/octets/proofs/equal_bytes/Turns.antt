-- One turn of the loop: what is left of a number. Assumes nothing.
use mathlib.Core.Path.{◌≡◌}
use mathlib.Core.List.{List}
use Prim.Native.Nat.{ℕ, ◌+◌, ◌*◌, ◌%◌, ◌≤◌, ◌<◌}
use native.Mathlib.Numerals.{add-one}
use lib.ListN.{length, drop, get_or, drop_of_length-le}
use lib.Seq.{drop-cons}
use Rattle.octets.specs.equal_bytes.Equal.{prime, number_from}

pub number-next : (n : ℕ) (xs : List ℕ) (i : ℕ) → i < length xs
    → number_from ((n * 257 + get_or xs i 0) % prime) (drop (i + 1) xs) ≡ number_from n (drop i xs)
unfolding number_from
number-next n xs i h = rw (add-one, drop-cons xs i 0 h)

pub number-ended : (n : ℕ) (xs : List ℕ) (i : ℕ) → length xs ≤ i → number_from n (drop i xs) ≡ n
unfolding number_from
number-ended n xs i h = rw (drop_of_length-le xs {i = i} h)
