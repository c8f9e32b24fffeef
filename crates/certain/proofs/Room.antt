-- Nothing overflows: K is the largest coordinate, M the format's largest power of two, and 2^20·K is still at most M. Assumes nothing.
use Prim.Native.Nat.{ℕ, ◌+◌, ◌*◌, ◌^◌, ◌≤◌, ◌<◌}
use native.Mathlib.Nat.{le_trans, mul-le-mul, mul-le-mul_right, le_of_mul-le-mul_right}
use native.Mathlib.Omega.{arith}
use lib.Dec.{leb→le}
use lib.Pow.{pow_pos}
use Rattle.certain.specs.Coordinates.{largest}

-- ---- plain numbers: U units are 1

module _ (K M U : ℕ) (pK : 0 < K) (pU : 0 < U) (room : 2 ^ 20 * K ≤ M) where
  sum_room : (x : ℕ) → x ≤ 2 ^ 20 * (K * U) → x ≤ M * U
  sum_room x h = le_trans h (go K M U (mul-le-mul_right U room))
    where
      go : (K M U : ℕ) → 2 ^ 20 * K * U ≤ M * U → 2 ^ 20 * (K * U) ≤ M * U
      go K M U h = omega arith

  product_room : (x : ℕ) → x ≤ 2 ^ 20 * (K * (U * U)) → x ≤ M * (U * U)
  product_room x h = le_trans h (go K M U (mul-le-mul_right (U * U) room))
    where
      go : (K M U : ℕ) → 2 ^ 20 * K * (U * U) ≤ M * (U * U) → 2 ^ 20 * (K * (U * U)) ≤ M * (U * U)
      go K M U h = omega arith

  one-under : U ≤ K * U
  one-under = go K U (mul-le-mul_right U pK)
    where
      go : (K U : ℕ) → 1 * U ≤ K * U → U ≤ K * U
      go K U h = omega arith

  some : 0 < K * U
  some = le_trans pU one-under

  -- 1 + h, and what it is rounded to
  one-and : (h : ℕ) → h ≤ 4096 * U → U + h ≤ M * U
  one-and h l = sum_room (U + h) (go U h (K * U) l one-under)
    where
      go : (U h z : ℕ) → h ≤ 4096 * U → U ≤ z → U + h ≤ 2 ^ 20 * z
      go U h z l k = omega arith

  one_and_size : (h u : ℕ) → h ≤ 4096 * U → u ≤ 2 * (U + h) + 1 → u ≤ 8195 * U
  one_and_size h u l k = go U h u pU l k
    where
      go : (U h u : ℕ) → 0 < U → h ≤ 4096 * U → u ≤ 2 * (U + h) + 1 → u ≤ 8195 * U
      go U h u p l k = omega arith

  -- b times something of at most 8195, and what it is rounded to
  product_most : (b u : ℕ) → b ≤ K * U → u ≤ 8195 * U → b * u ≤ 8195 * (K * (U * U))
  product_most b u l k = le_trans (mul-le-mul l k) (go K U)
    where
      go : (K U : ℕ) → K * U * (8195 * U) ≤ 8195 * (K * (U * U))
      go K U = omega arith

  product : (b u : ℕ) → b ≤ K * U → u ≤ 8195 * U → b * u ≤ M * (U * U)
  product b u l k = product_room (b * u) (le_trans (product_most b u l k) (go (K * (U * U))))
    where
      go : (z : ℕ) → 8195 * z ≤ 2 ^ 20 * z
      go z = omega arith

  product_size : (b u v : ℕ) → b ≤ K * U → u ≤ 8195 * U → v * U ≤ 2 * (b * u) + U → v ≤ 16391 * (K * U)
  product_size b u v l k h = le_of_mul-le-mul_right {k = U} (go (v * U) (b * u) U K (product_most b u l k) h (mul-le-mul_right U some)) pU
    where
      go : (x y U K : ℕ) → y ≤ 8195 * (K * (U * U)) → x ≤ 2 * y + U → 1 * U ≤ K * U * U → x ≤ 16391 * (K * U) * U
      go x y U K a b c = omega arith

  -- and a coordinate more, and 2^-40 of that
  total : (v c : ℕ) → v ≤ 16391 * (K * U) → c ≤ K * U → v + c ≤ M * U
  total v c l k = sum_room (v + c) (go v c (K * U) l k)
    where
      go : (v c z : ℕ) → v ≤ 16391 * z → c ≤ z → v + c ≤ 2 ^ 20 * z
      go v c z l k = omega arith

  part : (t v c w : ℕ) → t ≤ U → v ≤ 16391 * (K * U) → c ≤ K * U → w ≤ 2 * (v + c) + 1 → t * w ≤ M * (U * U)
  part t v c w s l k h = product_room (t * w) (le_trans (mul-le-mul s (few v c w (K * U) l k h some)) (go K U))
    where
      few : (v c w z : ℕ) → v ≤ 16391 * z → c ≤ z → w ≤ 2 * (v + c) + 1 → 0 < z → w ≤ 32785 * z
      few v c w z l k h p = omega arith

      go : (K U : ℕ) → U * (32785 * (K * U)) ≤ 2 ^ 20 * (K * (U * U))
      go K U = omega arith

  -- two coordinates, and what they are rounded to with a product more
  pair : (b c : ℕ) → b ≤ K * U → c ≤ K * U → c + b ≤ M * U
  pair b c l k = sum_room (c + b) (go b c (K * U) l k)
    where
      go : (b c z : ℕ) → b ≤ z → c ≤ z → c + b ≤ 2 ^ 20 * z
      go b c z l k = omega arith

  pair_and : (b c d v : ℕ) → b ≤ K * U → c ≤ K * U → d ≤ 2 * (c + b) + 1 → v ≤ 16391 * (K * U) → d + v ≤ M * U
  pair_and b c d v l k h j = sum_room (d + v) (go b c d v (K * U) some l k h j)
    where
      go : (b c d v z : ℕ) → 0 < z → b ≤ z → c ≤ z → d ≤ 2 * (c + b) + 1 → v ≤ 16391 * z → d + v ≤ 2 ^ 20 * z
      go b c d v z p l k h j = omega arith

-- ---- doubles: K = 2^500, M = 2^1023, U = 2^1074

pub largest_positive : 0 < largest
largest_positive = leb→le _ _ tt

room : 2 ^ 20 * largest ≤ 2 ^ 1023
room = leb→le _ _ tt

pub one_and_fits : (h : ℕ) → h ≤ 4096 * 2 ^ 1074 → 2 ^ 1074 + h ≤ 2 ^ 1023 * 2 ^ 1074
one_and_fits = one-and largest (2 ^ 1023) (2 ^ 1074) largest_positive (pow_pos 1074) room

pub one_and_most : (h u : ℕ) → h ≤ 4096 * 2 ^ 1074 → u ≤ 2 * (2 ^ 1074 + h) + 1 → u ≤ 8195 * 2 ^ 1074
one_and_most = one_and_size largest (2 ^ 1023) (2 ^ 1074) largest_positive (pow_pos 1074) room

pub product_fits : (b u : ℕ) → b ≤ largest * 2 ^ 1074 → u ≤ 8195 * 2 ^ 1074 → b * u ≤ 2 ^ 1023 * (2 ^ 1074 * 2 ^ 1074)
product_fits = product largest (2 ^ 1023) (2 ^ 1074) largest_positive (pow_pos 1074) room

pub rounded_most :
    (b u v : ℕ) → b ≤ largest * 2 ^ 1074 → u ≤ 8195 * 2 ^ 1074 → v * 2 ^ 1074 ≤ 2 * (b * u) + 2 ^ 1074 → v ≤ 16391 * (largest * 2 ^ 1074)
rounded_most = product_size largest (2 ^ 1023) (2 ^ 1074) largest_positive (pow_pos 1074) room

pub total_fits : (v c : ℕ) → v ≤ 16391 * (largest * 2 ^ 1074) → c ≤ largest * 2 ^ 1074 → v + c ≤ 2 ^ 1023 * 2 ^ 1074
total_fits = total largest (2 ^ 1023) (2 ^ 1074) largest_positive (pow_pos 1074) room

pub part_fits :
    (t v c w : ℕ) → t ≤ 2 ^ 1074 → v ≤ 16391 * (largest * 2 ^ 1074) → c ≤ largest * 2 ^ 1074 → w ≤ 2 * (v + c) + 1
    → t * w ≤ 2 ^ 1023 * (2 ^ 1074 * 2 ^ 1074)
part_fits = part largest (2 ^ 1023) (2 ^ 1074) largest_positive (pow_pos 1074) room

pub pair_fits : (b c : ℕ) → b ≤ largest * 2 ^ 1074 → c ≤ largest * 2 ^ 1074 → c + b ≤ 2 ^ 1023 * 2 ^ 1074
pair_fits = pair largest (2 ^ 1023) (2 ^ 1074) largest_positive (pow_pos 1074) room

pub pair_and_fits :
    (b c d v : ℕ) → b ≤ largest * 2 ^ 1074 → c ≤ largest * 2 ^ 1074 → d ≤ 2 * (c + b) + 1 → v ≤ 16391 * (largest * 2 ^ 1074)
    → d + v ≤ 2 ^ 1023 * 2 ^ 1074
pair_and_fits = pair_and largest (2 ^ 1023) (2 ^ 1074) largest_positive (pow_pos 1074) room
