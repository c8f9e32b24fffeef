-- The three correction steps of the root, one after the other: how large each root and each rest is, that after them the root is the nearest
-- number or one below it, and that one more is taken where it is one below. The step of the estimate comes before: they are the second to
-- the fourth, and that one the fifth. Assumes nothing.
use mathlib.Core.Path.{◌≡◌, refl, ap, ◌∙◌}
use mathlib.Core.Bool.{Bool, true, false, cond}
use Prim.Native.Nat.{ℕ, ◌+◌, ◌-◌, ◌*◌, ◌^◌, ◌≤◌, ◌<◌}
use native.Mathlib.Omega.{arith}
use borrow.Author.Tests.{leb-true, leb-false, le-leb, lt-leb}
use lib.Dec.{leb, leb→le}
use Rattle.root.specs.Steps.{near_root}
use Rattle.root.proofs.RoundedRoots.{product_below, is_nearest}
use Rattle.root.specs.declared.table_root.Guess.{Guess}
use Rattle.root.specs.table_root.Steps.{reciprocal_of, first_of, step_of, next_of, correction_of, corrected_of, steps_of, whole_root_of}
use Rattle.root.specs.table_root.Room.{Started, StepFits}
use Rattle.root.proofs.table_root.Reciprocals.{Reciprocal, reciprocal_near}
use Rattle.root.proofs.table_root.FirstRoots.{square, rest_lt, first_near, not_small}
use Rattle.root.proofs.table_root.Guesses.{Held, root_lt, Next, next, step_fits}

module _ (m v : ℕ) (lo : 2 ^ 52 ≤ m) (hi : m < 2 ^ 54) (k : Reciprocal m v) where
  -- the guesses after none, one, two and three steps, and the numbers whose roots they are near to in their units
  abbrev g₀ : Guess
  g₀ = first_of m v

  abbrev g₁ : Guess
  g₁ = step_of v 256 (2 ^ 36) g₀

  abbrev g₂ : Guess
  g₂ = step_of v 128 (2 ^ 45) g₁

  abbrev g₃ : Guess
  g₃ = step_of v 128 (2 ^ 52) g₂

  abbrev n₀ : ℕ
  n₀ = m * 2 ^ 8

  abbrev n₁ : ℕ
  n₁ = n₀ * (256 * 256)

  abbrev n₂ : ℕ
  n₂ = n₁ * (128 * 128)

  pub started : Started m v
  started = record { number = hi; reciprocal = k.most; square = square m v lo hi k }

  held₀ : Held (m * 2 ^ 8) v (2 ^ 62) g₀
  unfolding first_of
  held₀ = record { held = omega (arith, square m v lo hi k); near = first_near m v lo hi k }

  rest₀ : g₀.rest < 2 ^ 48
  unfolding first_of
  rest₀ = rest_lt m v lo hi k

  least₀ : 2 ^ 29 ≤ g₀.root
  unfolding first_of
  least₀ = not_small m v lo hi k

  next₁ : Next n₀ v (2 ^ 62) 256 (2 ^ 36) g₀
  next₁ = next n₀ v (2 ^ 62) 256 (2 ^ 36) g₀ held₀ k.some (leb→le _ _ tt) (leb→le _ _ tt) refl

  rest₁ : g₁.rest < 2 ^ 50 - 2 ^ 46
  rest₁ = go g₀.rest g₀.root g₁.rest rest₀ (root_lt n₀ v (2 ^ 62) (2 ^ 31) g₀ held₀ (omega arith)) next₁.rest
    where
      go :
          (a b c : ℕ) → a < 2 ^ 48 → b < 2 ^ 31 → c * 2 ^ 17 ≤ 7 * (a * (256 * 256)) + (2 * (b * 256) + 2 ^ 18 * (256 * 256)) * 2 ^ 17
          → c < 2 ^ 50 - 2 ^ 46
      go a b c h l n = omega arith

  next₂ : Next n₁ v (2 ^ 62 * 256) 128 (2 ^ 45) g₁
  next₂ = next n₁ v (2 ^ 62 * 256) 128 (2 ^ 45) g₁ next₁.held k.some (leb→le _ _ tt) (leb→le _ _ tt) refl

  rest₂ : g₂.rest < 2 ^ 50
  rest₂ = go g₁.rest g₁.root g₂.rest rest₁ (root_lt n₁ v (2 ^ 62 * 256) (2 ^ 39) g₁ next₁.held (omega arith)) next₂.rest
    where
      go :
          (a b c : ℕ) → a < 2 ^ 50 - 2 ^ 46 → b < 2 ^ 39
          → c * 2 ^ 17 ≤ 7 * (a * (128 * 128)) + (2 * (b * 128) + 2 ^ 18 * (128 * 128)) * 2 ^ 17 → c < 2 ^ 50
      go a b c h l n = omega arith

  next₃ : Next n₂ v (2 ^ 62 * 256 * 128) 128 (2 ^ 52) g₂
  next₃ = next n₂ v (2 ^ 62 * 256 * 128) 128 (2 ^ 52) g₂ next₂.held k.some (leb→le _ _ tt) (leb→le _ _ tt) refl

  least₃ : 2 ^ 51 ≤ g₃.root
  least₃ = go g₀.root g₁.root g₂.root g₃.root least₀ next₁.root next₂.root next₃.root
    where
      go : (a b c d : ℕ) → 2 ^ 29 ≤ a → a * 256 ≤ b → b * 128 ≤ c → c * 128 ≤ d → 2 ^ 51 ≤ d
      go a b c d h p q r = omega arith

  rest₃ : g₃.rest ≤ 3 * g₃.root + 2
  rest₃ = go g₂.rest g₂.root g₃.rest g₃.root rest₂ least₃ next₃.root next₃.rest
    where
      go :
          (a b c d : ℕ) → a < 2 ^ 50 → 2 ^ 51 ≤ d → b * 128 ≤ d
          → c * 2 ^ 17 ≤ 7 * (a * (128 * 128)) + (2 * (b * 128) + 2 ^ 18 * (128 * 128)) * 2 ^ 17 → c ≤ 3 * d + 2
      go a b c d h l p n = omega arith

  is₃ : g₃.root * g₃.root + g₃.rest ≡ m * 2 ^ 52
  is₃ = next₃.held.held ∙ omega arith

  pub root₃-lt : g₃.root < 2 ^ 53
  root₃-lt = root_lt (n₂ * (128 * 128)) v (2 ^ 62 * 256 * 128 * 128) (2 ^ 53) g₃ next₃.held (omega arith)

  -- what the code needs at each step
  pub fits₁ : StepFits v 256 (2 ^ 36) g₀
  fits₁ =
      step_fits n₀ v (2 ^ 62) 256 (2 ^ 36) g₀ held₀ k.some (leb→le _ _ tt) (leb→le _ _ tt) refl k.most (leb→le _ _ tt)
      (omega (arith, rest₀))
      (omega (arith, rest₀))
      (root_lt n₁ v (2 ^ 62 * 256) (2 ^ 53) g₁ next₁.held (omega arith))

  pub fits₂ : StepFits v 128 (2 ^ 45) g₁
  fits₂ =
      step_fits n₁ v (2 ^ 62 * 256) 128 (2 ^ 45) g₁ next₁.held k.some (leb→le _ _ tt) (leb→le _ _ tt) refl k.most (leb→le _ _ tt)
      (omega (arith, rest₁))
      (omega (arith, rest₁))
      (root_lt n₂ v (2 ^ 62 * 256 * 128) (2 ^ 53) g₂ next₂.held (omega arith))

  pub fits₃ : StepFits v 128 (2 ^ 52) g₂
  fits₃ =
      step_fits n₂ v (2 ^ 62 * 256 * 128) 128 (2 ^ 52) g₂ next₂.held k.some (leb→le _ _ tt) (leb→le _ _ tt) refl k.most
      (leb→le _ _ tt)
      (omega (arith, rest₂))
      (omega (arith, rest₂))
      root₃-lt

-- ---- four steps or five

module _ (m : ℕ) where
  -- The code's calls are the definition's first four steps: v is the estimate after the first.
  pub four_steps :
      let v = reciprocal_of m in
      corrected_of m 4 ≡ step_of v 128 (2 ^ 52) (step_of v 128 (2 ^ 45) (step_of v 256 (2 ^ 36) (first_of m v)))
  unfolding corrected_of correction_of
  four_steps = refl

  -- and the fifth adds one
  pub five_steps : (corrected_of m 5).root ≡ (corrected_of m 4).root + 1
  unfolding corrected_of correction_of next_of
  five_steps = refl

  pub takes_four : (corrected_of m 4).rest ≤ (corrected_of m 4).root → steps_of m ≡ 4
  unfolding steps_of
  takes_four h = simp (le-leb (corrected_of m 4).rest (corrected_of m 4).root h)

  pub takes_five : (corrected_of m 4).root < (corrected_of m 4).rest → steps_of m ≡ 5
  unfolding steps_of
  takes_five h = simp (lt-leb (corrected_of m 4).rest (corrected_of m 4).root h)

-- 02, Order 11: "State how many correction steps it takes at most"
pub steps_most : (m : ℕ) → steps_of m ≤ 5
unfolding steps_of
steps_most m = go (leb (corrected_of m 4).rest (corrected_of m 4).root)
  where
    go : (b : Bool) → cond b 4 5 ≤ 5
    go true = leb→le _ _ tt
    go false = leb→le _ _ tt

pub steps_least : (m : ℕ) → 4 ≤ steps_of m
unfolding steps_of
steps_least m = go (leb (corrected_of m 4).rest (corrected_of m 4).root)
  where
    go : (b : Bool) → 4 ≤ cond b 4 5
    go true = leb→le _ _ tt
    go false = leb→le _ _ tt

-- after as many steps as it takes, the root is the nearest number
settled :
    (m n : ℕ) → n < 4 ^ 53 → 0 < (corrected_of m 4).root
    → (corrected_of m 4).root * (corrected_of m 4).root + (corrected_of m 4).rest ≡ n
    → (corrected_of m 4).rest ≤ 3 * (corrected_of m 4).root + 2
    → (corrected_of m (steps_of m)).root ≡ near_root n
unfolding steps_of
settled m n small some e h =
    go (leb (corrected_of m 4).rest (corrected_of m 4).root)
    (leb-true (corrected_of m 4).rest (corrected_of m 4).root)
    (leb-false (corrected_of m 4).rest (corrected_of m 4).root)
  where
    after_four : (r rest : ℕ) → 0 < r → r * r + rest ≡ n → rest ≤ r → r ≡ near_root n
    after_four r rest p e l = let b = product_below r in is_nearest n r small (omega arith) (omega arith)

    after_five : (r rest : ℕ) → r * r + rest ≡ n → r < rest → rest ≤ 3 * r + 2 → r + 1 ≡ near_root n
    after_five r rest e l h = is_nearest n (r + 1) small (omega (arith, product_below (r + 1))) (omega arith)

    go :
        (b : Bool) → (b ≡ true → (corrected_of m 4).rest ≤ (corrected_of m 4).root)
        → (b ≡ false → (corrected_of m 4).root < (corrected_of m 4).rest)
        → (corrected_of m (cond b 4 5)).root ≡ near_root n
    go true y z = after_four (corrected_of m 4).root (corrected_of m 4).rest some e (y refl)
    go false y z = five_steps m ∙ after_five (corrected_of m 4).root (corrected_of m 4).rest e (z refl) h

-- the number found is the plain root's
pub whole_root_nearest : (m : ℕ) → 2 ^ 52 ≤ m → m < 2 ^ 54 → (whole_root_of m).root ≡ near_root (m * 2 ^ 52)
unfolding whole_root_of corrected_of correction_of
whole_root_nearest m lo hi =
    let v = reciprocal_of m in
    let k = reciprocal_near m lo hi in
    settled m (m * 2 ^ 52) (omega arith) (omega (arith, least₃ m v lo hi k)) (is₃ m v lo hi k) (rest₃ m v lo hi k)

-- what the code hands back after four steps and after five
pub whole_root_four : (m : ℕ) → (corrected_of m 4).rest ≤ (corrected_of m 4).root → whole_root_of m ≡ record { root = (corrected_of m 4).root; steps = 4 }
unfolding whole_root_of
whole_root_four m h = ap (λ (n : ℕ). record { root = (corrected_of m n).root; steps = n }) (takes_four m h)

pub whole_root_five : (m : ℕ) → (corrected_of m 4).root < (corrected_of m 4).rest → whole_root_of m ≡ record { root = (corrected_of m 4).root + 1; steps = 5 }
unfolding whole_root_of
whole_root_five m h =
    ap (λ (n : ℕ). record { root = (corrected_of m n).root; steps = n }) (takes_five m h)
    ∙ ap (λ (r : ℕ). record { root = r; steps = 5 }) (five_steps m)
