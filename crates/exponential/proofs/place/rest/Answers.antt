-- `rest` meets its contract: a point between two borders is over the lower one by less than a place's width. Assumes nothing.
use Rattle.std.proofs.Common.{◌≡◌, ℕ, ◌+◌, ◌-◌, ◌*◌, ◌/◌, ◌%◌, ◌^◌, ◌≤◌, sym, subst, arith, w64, Fits}
use Rattle.exponential.specs.Steps.{border, gap, fraction, rest, third_in64, AtPlace}
use Rattle.exponential.proofs.Borders.{rest_small}
use Rattle.exponential.proofs.place.rest.Goals as goal
use Rattle.exponential.proofs.place.rest.Goals.{After-border}

-- what the code computes is the rest, and it is small
rest-is :
    (y part k b : ℕ) → AtPlace y k → b ≡ border k → (y - b) * 2048 + (2047 - fraction k / 2 ^ 29 % 2048) + part ≡ rest (y * 2048 + part) k
unfolding rest gap
rest-is y part k b h e = go (border k) (2047 - fraction k / 2 ^ 29 % 2048) e h.from
  where
    go : (m g : ℕ) → b ≡ m → m ≤ y → (y - b) * 2048 + g + part ≡ y * 2048 + part + g - m * 2048
    go m g e l = omega arith

module _ (c : After-border) where
  abbrev y : ℕ
  y = c.args.y

  abbrev part : ℕ
  part = c.args.part

  abbrev k : ℕ
  k = c.args.k

  abbrev g : ℕ
  g = 2047 - fraction k / 2 ^ 29 % 2048

  is : (y - c.border.result) * 2048 + g + part ≡ rest (y * 2048 + part) k
  is = rest-is y part k c.border.result c.requires.0 c.border.ensures

  small : (y - c.border.result) * 2048 + g + part ≤ third_in64 + 2048
  small = subst (λ (x : ℕ). x ≤ third_in64 + 2048) (sym is) (rest_small y part k c.requires.0 c.requires.1)

parts_fit : (a b d : ℕ) → a + b + d ≤ third_in64 + 2048 → Fits w64 a
parts_fit a b d h = record { fits = omega arith }

two_fit : (a b d : ℕ) → a + b + d ≤ third_in64 + 2048 → Fits w64 (a + b)
two_fit a b d h = record { fits = omega arith }

all_fit : (a b d : ℕ) → a + b + d ≤ third_in64 + 2048 → Fits w64 (a + b + d)
all_fit a b d h = record { fits = omega arith }

pub overflow_mul-result : goal.overflow_mul-result
overflow_mul-result c = parts_fit _ (g c) (part c) (small c)

pub overflow_add-result : goal.overflow_add-result
overflow_add-result c = two_fit _ (g c) (part c) (small c)

pub overflow_add-result-2 : goal.overflow_add-result-2
overflow_add-result-2 c = all_fit _ (g c) (part c) (small c)

pub returns : goal.returns
returns c = is c
