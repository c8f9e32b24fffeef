-- The turns of the loops that read and write one number. Assumes nothing.
use mathlib.Core.Path.{◌≡◌, refl, ap, ◌∙◌}
use Prim.Native.Nat.{ℕ, zero, suc, ◌+◌, ◌*◌, ◌-◌, ◌/◌, ◌%◌, ◌^◌, ◌<◌, ◌≤◌}
use mathlib.Core.List.{List, [], ◌∷◌}
use native.Mathlib.Omega.{arith}
use native.Mathlib.Nat.{pow-le-pow_right}
use lib.ListN.{take, drop, get_or, set}
use lib.Seq.{sets, take-take}
use Rattle.std.specs.Int.{w32, w64, from_le_bytes}
use Rattle.octets.specs.words.Words.{le, spelled}

-- ---- reading: byte i in front of the bytes above it

spelled-nil : (i n : ℕ) → spelled (drop i (take n [])) ≡ 0
unfolding spelled
spelled-nil zero zero = refl
spelled-nil zero (suc n) = refl
spelled-nil (suc i) zero = refl
spelled-nil (suc i) (suc n) = refl

pub read-turn : (i n : ℕ) (bs : List ℕ) → i < n → spelled (drop i (take n bs)) ≡ get_or bs i 0 + 256 * spelled (drop (suc i) (take n bs))
unfolding spelled
read-turn i n [] h = omega (arith, spelled-nil i n, spelled-nil (suc i) n)
read-turn i zero (b ∷ bs) h = absurd (omega arith)
read-turn zero (suc n) (b ∷ bs) h = refl
read-turn (suc i) (suc n) (b ∷ bs) h = read-turn i n bs (omega arith)

pub read_none : (n : ℕ) (bs : List ℕ) → spelled (drop n (take n bs)) ≡ 0
unfolding spelled
read_none zero bs = refl
read_none (suc n) [] = refl
read_none (suc n) (b ∷ bs) = read_none n bs

-- four bytes and eight, written out
pub spelled_four : (bs : List ℕ) → spelled (take 4 bs) ≡ get_or bs 0 0 + get_or bs 1 0 * 2 ^ 8 + get_or bs 2 0 * 2 ^ 16 + get_or bs 3 0 *
    2 ^ 24
spelled_four bs =
    omega (
      arith,
      read-turn 0 4 bs (omega arith),
      read-turn 1 4 bs (omega arith),
      read-turn 2 4 bs (omega arith),
      read-turn 3 4 bs (omega arith),
      read_none 4 bs,
    )

pub spelled_eight :
    (bs : List ℕ)
    → spelled (take 8 bs)
    ≡ get_or bs 0 0 + get_or bs 1 0 * 2 ^ 8 + get_or bs 2 0 * 2 ^ 16 + get_or bs 3 0 * 2 ^ 24 + get_or bs 4 0 * 2 ^ 32 + get_or bs 5 0 *
    2 ^ 40
    + get_or bs 6 0 * 2 ^ 48 + get_or bs 7 0 * 2 ^ 56
spelled_eight bs =
    omega (
      arith,
      read-turn 0 8 bs (omega arith),
      read-turn 1 8 bs (omega arith),
      read-turn 2 8 bs (omega arith),
      read-turn 3 8 bs (omega arith),
      read-turn 4 8 bs (omega arith),
      read-turn 5 8 bs (omega arith),
      read-turn 6 8 bs (omega arith),
      read-turn 7 8 bs (omega arith),
      read_none 8 bs,
    )

-- what std reads of the first bytes
pub std_four : (row bs : List ℕ) → row ≡ take 4 bs → from_le_bytes w32 row ≡ spelled (take 4 bs)
std_four row bs h =
    let here : from_le_bytes w32 row ≡ spelled (take 4 row) = omega (arith, spelled_four row) in
    here ∙ ap (λ (r : List ℕ). spelled (take 4 r)) h ∙ ap spelled (take-take 4 4 bs (omega arith))

pub std_eight : (row bs : List ℕ) → row ≡ take 8 bs → from_le_bytes w64 row ≡ spelled (take 8 bs)
std_eight row bs h =
    let here : from_le_bytes w64 row ≡ spelled (take 8 row) = omega (arith, spelled_eight row) in
    here ∙ ap (λ (r : List ℕ). spelled (take 8 r)) h ∙ ap spelled (take-take 8 8 bs (omega arith))

-- a number of k bytes and one byte more
pub one_more : (x b k : ℕ) → x < 256 ^ k → b < 256 → x * 256 + b < 256 ^ suc k
one_more x b k h g = omega arith

pub within_eight : (x k : ℕ) → k ≤ 8 → x < 256 ^ k → x < 2 ^ 64
within_eight x k h g = omega (arith, pow-le-pow_right {n = 256} (omega arith) h)

-- ---- writing: what is left to write

pub write-turn : (bs : List ℕ) (place i n y : ℕ) → i < n → sets (set bs (place + i) (y % 256)) (place + (i + 1))
    (le (n - (i + 1)) (y / 256)) ≡ sets bs (place + i) (le (n - i) y)
unfolding le
write-turn bs place i n y h =
    let left : n - i ≡ suc (n - (i + 1)) = omega arith in
    let next : place + (i + 1) ≡ suc (place + i) = omega arith in
    rw (left, next)
