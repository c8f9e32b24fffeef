-- Reading what was written gives it back, and what is read was written so: of one number over
-- its count of bytes, of a row over its count of numbers. Assumes nothing.
use mathlib.Core.Path.{◌≡◌, refl, sym, ap, ◌∙◌}
use Prim.Native.Nat.{ℕ, zero, suc, ◌+◌, ◌*◌, ◌/◌, ◌%◌, ◌^◌, ◌<◌, ◌≤◌}
use mathlib.Core.List.{List, [], ◌∷◌, ◌++◌, append_assoc}
use native.Mathlib.Omega.{arith}
use lib.ListN.{length, take, drop, get_or, length-append, length-drop}
use lib.Seq.{take_at, drop_at, take-add, length-take-le}
use Rattle.octets.specs.words.Words.{le, spelled, row_bytes, row_of, AllBelow}

-- ---- one number

pub length-le : (n x : ℕ) → length (le n x) ≡ n
unfolding le
length-le zero x = refl
length-le (suc n) x = ap suc (length-le n (x / 256))

pub le_below : (n x : ℕ) → AllBelow 256 (le n x)
unfolding le AllBelow
le_below zero x = tt
le_below (suc n) x = (omega arith, le_below n (x / 256))

-- reading what was written gives it back
pub spelled-le : (n x : ℕ) → x < 256 ^ n → spelled (le n x) ≡ x
unfolding le spelled
spelled-le zero x h = omega arith
spelled-le (suc n) x h = omega (arith, spelled-le n (x / 256) (omega arith))

-- what is read was written so
pub le-spelled : (bs : List ℕ) → AllBelow 256 bs → le (length bs) (spelled bs) ≡ bs
unfolding le spelled AllBelow
le-spelled [] h = refl
le-spelled (b ∷ bs) h =
    let low : (b + 256 * spelled bs) % 256 ≡ b = omega (arith, h.0) in
    let high : (b + 256 * spelled bs) / 256 ≡ spelled bs = omega (arith, h.0) in
    rw (low, high, le-spelled bs h.1)

more : (b s n : ℕ) → b < 256 → s < 256 ^ n → b + 256 * s < 256 ^ suc n
more b s n hb hs = omega arith

pub spelled_lt : (bs : List ℕ) → AllBelow 256 bs → spelled bs < 256 ^ length bs
unfolding spelled AllBelow
spelled_lt [] h = omega arith
spelled_lt (b ∷ bs) h = more b (spelled bs) (length bs) h.0 (spelled_lt bs h.1)

-- ---- a list of bytes, cut and joined

pub below-append : (m : ℕ) (xs ys : List ℕ) → AllBelow m xs → AllBelow m ys → AllBelow m (xs ++ ys)
unfolding AllBelow
below-append m [] ys h g = g
below-append m (x ∷ xs) ys h g = (h.0, below-append m xs ys h.1 g)

pub below-take : (m n : ℕ) (xs : List ℕ) → AllBelow m xs → AllBelow m (take n xs)
unfolding AllBelow
below-take m zero [] h = tt
below-take m zero (x ∷ xs) h = tt
below-take m (suc n) [] h = tt
below-take m (suc n) (x ∷ xs) h = (h.0, below-take m n xs h.1)

pub below-drop : (m n : ℕ) (xs : List ℕ) → AllBelow m xs → AllBelow m (drop n xs)
unfolding AllBelow
below-drop m zero [] h = h
below-drop m zero (x ∷ xs) h = h
below-drop m (suc n) [] h = tt
below-drop m (suc n) (x ∷ xs) h = below-drop m n xs h.1

-- a list whose every place is below m
pub below_of_places : (m : ℕ) (xs : List ℕ) → ((i : ℕ) → i < length xs → get_or xs i 0 < m) → AllBelow m xs
unfolding AllBelow
below_of_places m [] h = tt
below_of_places m (x ∷ xs) h = (h 0 (omega arith), below_of_places m xs (λ i g. h (suc i) (omega arith)))

-- ---- a row of numbers

pub length-row_bytes : (w : ℕ) (xs : List ℕ) → length (row_bytes w xs) ≡ w * length xs
unfolding row_bytes
length-row_bytes w [] = omega arith
length-row_bytes w (x ∷ xs) = simp (length-append, length-le, length-row_bytes w xs) (omega arith)

pub row_bytes-below : (w : ℕ) (xs : List ℕ) → AllBelow 256 (row_bytes w xs)
unfolding row_bytes AllBelow
row_bytes-below w [] = tt
row_bytes-below w (x ∷ xs) = below-append 256 (le w x) (row_bytes w xs) (le_below w x) (row_bytes-below w xs)

pub length-row_of : (w n : ℕ) (bs : List ℕ) → length (row_of w n bs) ≡ n
unfolding row_of
length-row_of w zero bs = refl
length-row_of w (suc n) bs = ap suc (length-row_of w n (drop w bs))

-- reading what was written gives it back, whatever lies behind it
pub row_of-row_bytes : (w : ℕ) (xs rest : List ℕ) → AllBelow (256 ^ w) xs → row_of w (length xs) (row_bytes w xs ++ rest) ≡ xs
unfolding row_of row_bytes AllBelow
row_of-row_bytes w [] rest h = refl
row_of-row_bytes w (x ∷ xs) rest h =
    rw (
      append_assoc (le w x),
      take_at (le w x) (row_bytes w xs ++ rest) w (length-le w x),
      drop_at (le w x) (row_bytes w xs ++ rest) w (length-le w x),
      spelled-le w x h.0,
      row_of-row_bytes w xs rest h.1,
    )

-- what is read was written so
pub row_bytes-row_of : (w n : ℕ) (bs : List ℕ) → AllBelow 256 bs → w * n ≤ length bs → row_bytes w (row_of w n bs) ≡ take (w * n) bs
unfolding row_of row_bytes
row_bytes-row_of w zero bs h g = let z : w * 0 ≡ 0 = omega arith in rw z
row_bytes-row_of w (suc n) bs h g =
    let z : w * suc n ≡ w + w * n = omega arith in
    let first : le w (spelled (take w bs)) ≡ take w bs =
    ap (λ (k : ℕ). le k (spelled (take w bs))) (sym (length-take-le w bs (omega arith))) ∙ le-spelled (take w bs) (below-take 256 w bs h) in
    rw (z, take-add w (w * n) bs, first, row_bytes-row_of w n (drop w bs) (below-drop 256 w bs h) (simp length-drop (omega arith)))

pub row_of-below : (w n : ℕ) (bs : List ℕ) → AllBelow 256 bs → w * n ≤ length bs → AllBelow (256 ^ w) (row_of w n bs)
unfolding row_of AllBelow
row_of-below w zero bs h g = tt
row_of-below w (suc n) bs h g = (
  rw (length-take-le w bs (omega arith)) at (spelled_lt (take w bs) (below-take 256 w bs h)),
  row_of-below w n (drop w bs) (below-drop 256 w bs h) (simp length-drop (omega arith)),
)
