-- `product` meets its contract: what the sums of the digits give is the middle sum and what is taken off, and no carry and no sign of it is
-- lost. Assumes nothing.
use Rattle.std.proofs.Common.{◌≡◌, ℕ, ◌+◌, ◌-◌, ◌*◌, ◌/◌, ◌%◌, ◌≤◌, refl, ap, ◌∙◌, ap₂, le_trans, le-add_right, arith}
use Rattle.wide.proofs.PartialProducts.{base, Room, room, room_of, joined}
use Rattle.wide.proofs.PartialProducts.{summed, summed-room, crossed, reaches, carry_room, put_together}
use Rattle.wide.proofs.Products.{halves_of_product}
use Rattle.wide.proofs.product.Goals as goal
use Rattle.wide.proofs.product.Goals.{After-beyond-2, Start}

-- the upper, the lower and the middle products, and the sums of the digits
module _ (c : Start) where
  abbrev a : ℕ
  a = c.args.a

  abbrev b : ℕ
  b = c.args.b

  abbrev top : ℕ
  top = a / base * (b / base)

  abbrev low : ℕ
  low = a % base * (b % base)

  abbrev mid : ℕ
  mid = a / base * (b % base) + a % base * (b / base)

  abbrev a2 : ℕ
  a2 = a / base + a % base

  abbrev b2 : ℕ
  b2 = b / base + b % base

  abbrev both : ℕ
  both = a2 % base * (b2 % base)

  small : Room a b
  small = room a b (omega arith) (omega arith)

  both_small : both ≤ 18446744065119617025
  both_small = room_of (a2 % base) (b2 % base) (omega arith) (omega arith)

-- past both calls of `beyond`
module _ (c : After-beyond-2) where
  abbrev s : Start
  s = c.before.before

  abbrev over : ℕ
  over = c.beyond.result + c.beyond-2.result

  over-is : over ≡ a2 s / base * b2 s + b2 s / base * (a2 s % base)
  over-is = ap₂ ◌+◌ c.beyond.ensures c.beyond-2.ensures

  is : over * base + both s ≡ top s + low s + mid s
  is =
      ap (λ (x : ℕ). x * base + both s) over-is ∙ summed (a2 s) (b2 s)
      ∙ crossed (a s / base) (a s % base) (b s / base) (b s % base)

  over_small : over ≤ 3 * base
  over_small = rw over-is (summed-room (a2 s) (b2 s) (omega arith) (omega arith))

rest_of : (t w v : ℕ) → t + w ≤ v → w ≤ v - t
rest_of t w v h = omega arith

pub overflow_sub-result : goal.overflow_sub-result
overflow_sub-result c =
    let d = c.before in
    le_trans (le-add_right _ _)
    (reaches (top (s d)) (low (s d)) (mid (s d)) (over d) (both (s d)) (is d) c.below-sign.result c.below-sign.ensures)

pub overflow_sub-result-2 : goal.overflow_sub-result-2
overflow_sub-result-2 c =
    let d = c.before in
    rest_of _ _ _ (reaches (top (s d)) (low (s d)) (mid (s d)) (over d) (both (s d)) (is d) c.below-sign.result c.below-sign.ensures)

pub overflow_add-result-2 : goal.overflow_add-result-2
overflow_add-result-2 c =
    let d = c.before in
    let r = small (s d) in
    omega (
      arith,
      r.top,
      carry_room (top (s d)) (low (s d)) (mid (s d)) (over d) (both (s d)) (is d) c.below-sign.result c.below-sign.ensures
          (omega (arith, r.mid, r.cross)) r.low,
    )

pub returns : goal.returns
returns c =
    let d = c.before in
    halves_of_product (a (s d)) (b (s d)) _ _ (omega arith)
    (put_together (top (s d)) (low (s d)) (mid (s d)) (over d) (both (s d)) (is d) c.below-sign.result c.below-sign.ensures
    ∙ joined (a (s d)) (b (s d)) _ _ _ _ refl refl refl refl)
