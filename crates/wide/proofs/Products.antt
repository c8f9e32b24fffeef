-- The two halves of a product make the product, and two numbers that make it are its halves. Assumes nothing.
use Rattle.std.proofs.Common.{◌≡◌, ℕ, ◌+◌, ◌*◌, ◌/◌, ◌%◌, ◌^◌, ◌<◌, ap₂, div-add-mod', arith}
use Rattle.wide.specs.Products.{whole_of, product_of}

pub halves_make_product : (a b : ℕ) → whole_of (product_of a b) ≡ a * b
unfolding whole_of product_of
halves_make_product a b = div-add-mod' (a * b) (2 ^ 64)

pub halves_of_product : (a b h l : ℕ) → l < 2 ^ 64 → h * 2 ^ 64 + l ≡ a * b → record { hi = h; lo = l } ≡ product_of a b
unfolding product_of
halves_of_product a b h l small e =
    let eh : h ≡ a * b / 2 ^ 64 = omega arith in
    let el : l ≡ a * b % 2 ^ 64 = omega arith in
    ap₂ (λ (x y : ℕ). record { hi = x; lo = y }) eh el
