-- Sums of odd powers over one denominator, with any weights. In order: the sum as a recursion and as written; how it grows with p;
-- that it is homogeneous; its first terms against the whole. Assumes nothing.
use mathlib.Core.Path.{◌≡◌, refl, sym, ap, ◌∙◌, subst}
use Prim.Native.Nat.{ℕ, zero, suc, ◌+◌, ◌*◌, ◌^◌, ◌≤◌, ◌<◌}
use native.Mathlib.Nat.{zero-add, le_refl, le_step, pow-zero, pow-suc, mul-le-mul_left, mul-le-mul_right, suc-add}
use native.Mathlib.Omega.{arith}
use Rattle.arith.proofs.Powers.{pow_double_suc, pow_of_product, pow_grows_at_most, pow_grows_at_least}
use Rattle.series.specs.Series.{sum}

-- the sum over j < n of w j * p ^ (2j+1) * q ^ (2(n-1-j)): over q ^ (2n-1), the sum of w j * (p/q) ^ (2j+1)
unfoldable pub odds : (ℕ → ℕ) → ℕ → ℕ → ℕ → ℕ
odds w zero p q = 0
odds w (suc n) p q = odds w n p q * (q * q) + w n * p ^ suc (n + n)

-- the sum over j < n of p ^ (2j) * q ^ (2(n-1-j))
unfoldable pub evens : ℕ → ℕ → ℕ → ℕ
evens zero p q = 0
evens (suc n) p q = evens n p q * (q * q) + p ^ (n + n)

-- the first n of k + n terms, as written
pub odds_as_written :
    (w : ℕ → ℕ) (p q k n : ℕ) (t : ℕ → ℕ)
    → ((j i : ℕ) → j < n → suc (j + i) ≡ k + n → t j ≡ w j * p ^ suc (j + j) * q ^ (i + i)) → sum t n ≡ odds w n p q * q ^ (k + k)
unfolding odds sum
odds_as_written w p q k zero t h = omega arith
odds_as_written w p q k (suc n) t h =
    let ih : sum t n ≡ odds w n p q * q ^ (suc k + suc k) = odds_as_written w p q (suc k) n t
    (λ j i l e. h j i (le_step l) (e ∙ omega arith)) in
    let last : t n ≡ w n * p ^ suc (n + n) * q ^ (k + k) = h n k (le_refl (suc n)) (omega arith) in
    omega (arith, ih, last, ap (λ (x : ℕ). odds w n p q * x) (pow_double_suc q k))

-- the geometric sum G: G q² + p^2n = q^2n + G p²
pub geometric : (n p q : ℕ) → evens n p q * (q * q) + p ^ (n + n) ≡ q ^ (n + n) + evens n p q * (p * p)
unfolding evens
geometric zero p q = omega (arith, pow-zero p, pow-zero q)
geometric (suc n) p q =
    rw (pow_double_suc p n, pow_double_suc q n)
    (omega (arith, ap (λ (x : ℕ). x * (q * q)) (geometric n p q), ap (λ (x : ℕ). x * (p * p)) (geometric n p q)))

-- with weights l / (2j+1) the odd sum's derivative is l times the even sum
module _ (w : ℕ → ℕ) (l : ℕ) where
  pub odds_grow_at_most :
      (n : ℕ) → ((j : ℕ) → j < n → suc (j + j) * w j ≡ l) → (p e q : ℕ) → odds w n (p + e) q ≤ odds w n p q + l * (e * evens n (p + e) q)
  unfolding odds evens
  odds_grow_at_most zero h p e q = omega arith
  odds_grow_at_most (suc n) h p e q =
      let ih : odds w n (p + e) q ≤ odds w n p q + l * (e * evens n (p + e) q) = odds_grow_at_most n (λ j k. h j (le_step k)) p e q in
      let hn : suc (n + n) * w n ≡ l = h n (le_refl (suc n)) in
      omega (
        arith,
        mul-le-mul_right (q * q) ih,
        mul-le-mul_left (w n) (pow_grows_at_most p e (n + n)),
        ap
            (λ (x : ℕ). x * (e * (p + e) ^ (n + n))) hn,
      )

  pub odds_grow_at_least :
      (n : ℕ) → ((j : ℕ) → j < n → suc (j + j) * w j ≡ l) → (p e q : ℕ) → odds w n p q + l * (e * evens n p q) ≤ odds w n (p + e) q
  unfolding odds evens
  odds_grow_at_least zero h p e q = omega arith
  odds_grow_at_least (suc n) h p e q =
      let ih : odds w n p q + l * (e * evens n p q) ≤ odds w n (p + e) q = odds_grow_at_least n (λ j k. h j (le_step k)) p e q in
      let hn : suc (n + n) * w n ≡ l = h n (le_refl (suc n)) in
      omega (
        arith,
        mul-le-mul_right (q * q) ih,
        mul-le-mul_left (w n) (pow_grows_at_least p e (n + n)),
        ap
            (λ (x : ℕ). x * (e * p ^ (n + n))) hn,
      )

-- p and q times k
pub odds_homogeneous : (w : ℕ → ℕ) (n k p q : ℕ) → odds w n (p * k) (q * k) * k ≡ odds w n p q * k ^ (n + n)
unfolding odds
odds_homogeneous w zero k p q = omega arith
odds_homogeneous w (suc n) k p q =
    rw (pow_double_suc k n, pow_of_product p k (suc (n + n)), pow-suc k (n + n))
    (omega (arith, ap (λ (x : ℕ). x * (q * k * (q * k))) (odds_homogeneous w n k p q)))

pub odds_at_zero : (w : ℕ → ℕ) (k q : ℕ) → odds w k 0 q ≡ 0
unfolding odds
odds_at_zero w zero q = refl
odds_at_zero w (suc k) q = rw (odds_at_zero w k q, pow-suc 0 (k + k)) (omega arith)

-- the first m of k + m terms are at most the whole
pub first_terms_below : (w : ℕ → ℕ) (k m p q : ℕ) → odds w m p q * q ^ (k + k) ≤ odds w (k + m) p q
unfolding odds
first_terms_below w zero m p q =
    subst (λ (x : ℕ). odds w m p q * q ^ 0 ≤ odds w x p q) (sym (zero-add m)) (omega (arith, ap (λ (x : ℕ). odds w m p q * x) (pow-zero q)))
first_terms_below w (suc k) m p q =
    subst (λ (x : ℕ). odds w m p q * q ^ (suc k + suc k) ≤ odds w x p q) (sym (suc-add k m))
    (omega (arith, mul-le-mul_right (q * q) (first_terms_below w k m p q), ap (λ (x : ℕ). odds w m p q * x) (pow_double_suc q k)))

tail_folds : (w l x p q : ℕ) → 2 * w ≤ l → 2 * (p * p) ≤ q * q → x * (w * (q * q)) + x * (l * (p * p)) ≤ x * (l * (q * q))
tail_folds w l x p q hw hp = omega (arith, mul-le-mul_left (x * (q * q)) hw, mul-le-mul_left (x * l) hp)

-- and the rest is at most twice the next term, where (p/q)² is at most a half
pub first_terms_above :
    (w : ℕ → ℕ) (l k m p q : ℕ) → ((j : ℕ) → m ≤ j → j < k + m → 2 * w j ≤ l) → 2 * (p * p) ≤ q * q
    → odds w (k + m) p q * (q * q) + l * p ^ suc (k + m + (k + m))
    ≤ odds w m p q * (q * q) * q ^ (k + k) + l * p ^ suc (m + m) * q ^ (k + k)
unfolding odds
first_terms_above w l zero m p q hw hp =
    subst
    (λ (x : ℕ). odds w x p q * (q * q) + l * p ^ suc (x + x) ≤ odds w m p q * (q * q) * q ^ 0 + l * p ^ suc (m + m) * q ^ 0)
    (sym (zero-add m))
    (rw (pow-zero q) (omega arith))
first_terms_above w l (suc k) m p q hw hp =
    let ih : odds w (k + m) p q * (q * q) + l * p ^ suc (k + m + (k + m))
    ≤ odds w m p q * (q * q) * q ^ (k + k) + l * p ^ suc (m + m) * q ^ (k + k) =
    first_terms_above w l k m p q (λ j a b. hw j a (omega arith)) hp in
    subst
    (λ (x : ℕ). odds w x p q * (q * q) + l * p ^ suc (x + x)
    ≤ odds w m p q * (q * q) * q ^ (suc k + suc k) + l * p ^ suc (m + m) * q ^ (suc k + suc k))
    (sym (suc-add k m))
    (rw
    (pow_double_suc q k, pow-suc p (suc (k + m) + suc (k + m)), pow_double_suc p (k + m))
    (omega (
      arith,
      mul-le-mul_right (q * q) ih,
      tail_folds (w (k + m)) l (p ^ suc (k + m + (k + m))) p q (hw (k + m) (omega arith) (omega arith)) hp,
      ap (λ (x : ℕ). l * (p * p) * x) (pow-suc p (k + m + (k + m))),
    )))
