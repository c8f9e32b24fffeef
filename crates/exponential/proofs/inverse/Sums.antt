-- The exponential's sum of forty terms, E(p/q) = sum_num p q / (39!·q^39): that it is homogeneous, grows with p/q, and how much: a change
-- of r by δ changes it by at most δ times the sum at the far end, and by at least δ times the sum less its last term at the near end.
-- Assumes nothing.
use Rattle.std.proofs.Common.{◌≡◌, ℕ, zero, suc, ◌+◌, ◌-◌, ◌*◌, ◌^◌, ◌<◌, ◌≤◌, Bool, eqb, sym, refl, ap, ◌∙◌, subst, le_trans, le_of_eq, le_refl, le-add_right, le_of_lt, add-le-add, mul-le-mul_right, mul_comm, mul-le-mul_left, mul-pos, pow-suc, le_of_mul-le-mul_right, arith, lit<, lit≤, eqb→eq, pow-add}
use native.Mathlib.Nat.{le_dest, pow-zero, pow-le-pow_left}
use native.Mathlib.Decide.{dec_le}
use Rattle.arith.proofs.Tables.{every, at_index}
use Rattle.arith.proofs.Powers.{pow_of_product, pow_grows_at_most, pow_grows_at_least}
use Rattle.exponential.specs.Sum.{factorial, share, sum_to, sum_num, sum_den}

-- ---- the terms

next-term : (p q n : ℕ) → sum_to p q (suc n) ≡ sum_to p q n + share n * p ^ n * q ^ (39 - n)
unfolding sum_to
next-term p q n = refl

no_term : (p q : ℕ) → sum_to p q 0 ≡ 0
unfolding sum_to
no_term p q = refl

falls : ℕ → Bool
unfolding share
falls i = eqb (share i) (suc i * share (suc i))

-- 1/i! is i + 1 times 1/(i+1)!
share_falls : (i : ℕ) → i < 39 → share i ≡ suc i * share (suc i)
unfolding falls every
share_falls i h = eqb→eq _ _ (at_index falls 39 tt i h)

first-share : share 0 ≡ factorial 39
unfolding share
first-share = refl

last_share : share 39 ≡ 1
unfolding share
last_share = refl

pub factorial-pos : 0 < factorial 39
unfolding factorial
factorial-pos = lit< tt

-- ---- homogeneous

pub sum_of-scaled : (k p q n : ℕ) → n ≤ 40 → sum_to (p * k) (q * k) n ≡ sum_to p q n * k ^ 39
sum_of-scaled k p q zero h = rw (no_term (p * k) (q * k), no_term p q) (omega arith)
sum_of-scaled k p q (suc n) h =
    rw (next-term (p * k) (q * k) n, next-term p q n, pow_of_product p k n, pow_of_product q k (39 - n))
    (go _ _ _ (share n) (p ^ n) (k ^ n) (q ^ (39 - n)) (k ^ (39 - n)) (sum_of-scaled k p q n (omega arith)) split)
  where
    split : k ^ n * k ^ (39 - n) ≡ k ^ 39
    split = sym (pow-add k n (39 - n)) ∙ ap (λ (x : ℕ). k ^ x) (omega arith)

    go :
        (s t K w a b c d : ℕ) → s ≡ t * K → b * d ≡ K
        → s + w * (a * b) * (c * d) ≡ (t + w * a * c) * K
    go s t K w a b c d e f = omega (arith, ap (λ (x : ℕ). w * a * c * x) f)

-- ---- grows with p

pub sum_monotone : (p r q n : ℕ) → p ≤ r → sum_to p q n ≤ sum_to r q n
sum_monotone p r q zero h = rw (no_term p q, no_term r q) (le_refl 0)
sum_monotone p r q (suc n) h =
    rw (next-term p q n, next-term r q n)
    (add-le-add (sum_monotone p r q n h) (mul-le-mul_right (q ^ (39 - n)) (mul-le-mul_left (share n) (pow-le-pow_left h n))))

-- ---- how much

-- one term more: A, B and C are sums, X and Y powers, R a power of q
most_step :
    (q d n s s' A A' B C X X' Y R : ℕ) → q * A ≤ q * B + d * A' → X ≤ Y + suc n * (d * X') → s ≡ suc n * s' → C ≡ A' + s * X' * (R * q)
    → q * (A + s' * X * R) ≤ q * (B + s' * Y * R) + d * C
most_step q d n s s' A A' B C X X' Y R h g e f =
    rw f (omega (arith, mul-le-mul_left (q * s' * R) g, ap (λ (x : ℕ). d * X' * R * q * x) e))

least_step :
    (q d n s s' A B B' C X Y Y' R : ℕ) → q * B + d * B' ≤ q * A → Y + suc n * (d * Y') ≤ X → s ≡ suc n * s' → C ≡ B' + s * Y' * (R * q)
    → q * (B + s' * Y * R) + d * C ≤ q * (A + s' * X * R)
least_step q d n s s' A B B' C X Y Y' R h g e f =
    rw f (omega (arith, mul-le-mul_left (q * s' * R) g, ap (λ (x : ℕ). d * Y' * R * q * x) e))

module _ (p d q : ℕ) where
  first-term : (r : ℕ) → sum_to r q 1 ≡ share 0 * q ^ 39
  first-term r = next-term r q 0 ∙ go (no_term r q) (pow-zero r)
    where
      go : {a b : ℕ} → a ≡ 0 → b ≡ 1 → a + share 0 * b * q ^ 39 ≡ share 0 * q ^ 39
      go e f = rw (e, f) (omega arith)

  at_next : (r n : ℕ) → n < 39 → sum_to r q (suc n) ≡ sum_to r q n + share n * r ^ n * (q ^ (39 - suc n) * q)
  at_next r n h =
      next-term r q n ∙ ap (λ (x : ℕ). sum_to r q n + share n * r ^ n * x) (ap (λ (x : ℕ). q ^ x) (back n h) ∙ pow-suc q (39 - suc n))
    where
      back : (n : ℕ) → n < 39 → 39 - n ≡ suc (39 - suc n)
      back n h = omega arith

  sum_grows_at_most : (n : ℕ) → n < 40 → q * sum_to (p + d) q (suc n) ≤ q * sum_to p q (suc n) + d * sum_to (p + d) q n
  sum_grows_at_most zero h = rw (first-term (p + d), first-term p) (le-add_right _ _)
  sum_grows_at_most (suc n) h =
      rw (next-term (p + d) q (suc n), next-term p q (suc n))
      (most_step q d n (share n) (share (suc n)) (sum_to (p + d) q (suc n)) (sum_to (p + d) q n) (sum_to p q (suc n)) (sum_to (p + d) q (suc n))
      _ _ _ (q ^ (39 - suc n)) (sum_grows_at_most n (le_of_lt h)) (pow_grows_at_most p d n) (share_falls n (omega arith))
      (at_next (p + d) n (omega arith)))

  sum_grows_at_least : (n : ℕ) → n < 40 → q * sum_to p q (suc n) + d * sum_to p q n ≤ q * sum_to (p + d) q (suc n)
  sum_grows_at_least zero h = rw (first-term (p + d), first-term p, no_term p q) (omega arith)
  sum_grows_at_least (suc n) h =
      rw (next-term (p + d) q (suc n), next-term p q (suc n))
      (least_step q d n (share n) (share (suc n)) (sum_to (p + d) q (suc n)) (sum_to p q (suc n)) (sum_to p q n) (sum_to p q (suc n))
      _ _ _ (q ^ (39 - suc n)) (sum_grows_at_least n (le_of_lt h)) (pow_grows_at_least p d n) (share_falls n (omega arith))
      (at_next p n (omega arith)))

-- the sum is at least 1
pub sum_from_one : (p q : ℕ) → sum_den q ≤ sum_num p q
sum_from_one p q = le_trans (le_of_eq (ap (λ (x : ℕ). x * q ^ 39) (sym first-share) ∙ sym (first-term p 0 q p))) (first 39)
  where
    first : (n : ℕ) → sum_to p q 1 ≤ sum_to p q (suc n)
    first zero = le_refl _
    first (suc n) = le_trans (first n) (le_trans (le-add_right _ _) (le_of_eq (sym (next-term p q (suc n)))))

-- the last term is at most 1/39! of the whole, for r up to 1
without_last : (p q : ℕ) → p ≤ q → factorial 39 * sum_num p q ≤ factorial 39 * sum_to p q 39 + sum_num p q
without_last p q h =
    go (sum_to p q 39) (p ^ 39) (q ^ 39) (factorial 39) (sum_num p q) whole (pow-le-pow_left h 39) (sum_from_one p q)
  where
    whole : sum_num p q ≡ sum_to p q 39 + p ^ 39
    whole = next-term p q 39 ∙ ap (λ (x : ℕ). sum_to p q 39 + x) (last last_share (pow-zero q))
      where
        last : {s z : ℕ} → s ≡ 1 → z ≡ 1 → s * p ^ 39 * z ≡ p ^ 39
        last e f = rw (e, f) (omega arith)

    go : (a t u f s : ℕ) → s ≡ a + t → t ≤ u → f * u ≤ s → f * s ≤ f * a + s
    go a t u f s e h k = omega (arith, mul-le-mul_left f h, ap (λ (x : ℕ). f * x) e)

-- and 1 at r = 0
pub sum_at-zero : (q : ℕ) → sum_num 0 q ≡ sum_den q
sum_at-zero q = go 39 ∙ first-term 0 0 q 0 ∙ ap (λ (x : ℕ). x * q ^ 39) first-share
  where
    go : (n : ℕ) → sum_to 0 q (suc n) ≡ sum_to 0 q 1
    go zero = refl
    go (suc n) =
        next-term 0 q (suc n) ∙ ap (λ (x : ℕ). sum_to 0 q (suc n) + share (suc n) * x * q ^ (39 - suc n)) (pow-suc 0 n)
        ∙ none (share (suc n)) (0 ^ n) (q ^ (39 - suc n)) (sum_to 0 q (suc n)) ∙ go n
      where
        none : (a b c d : ℕ) → d + a * (b * 0) * c ≡ d
        none a b c d = omega arith

-- ---- two fractions at one denominator Q

most_shape : (x d D Q e e₀ f : ℕ) → Q * e ≤ Q * f + D * e₀ → e₀ ≤ e → (x + d) * D ≤ d * Q → Q * (x * e) ≤ Q * ((x + d) * f)
most_shape x d D Q e e₀ f h k l =
    omega (arith, mul-le-mul_left (x + d) h, mul-le-mul_left ((x + d) * D) k, mul-le-mul_right e l)

-- P'/Q at most P/Q + d/(x+d): the sum grows at most by the factor (x+d)/x
at_most : (x d P P' Q : ℕ) → 0 < Q → (x + d) * P' ≤ (x + d) * P + d * Q → x * sum_num P' Q ≤ (x + d) * sum_num P Q
at_most x d P P' Q pQ h = go (dec_le P P')
  where
    under : (x d e f : ℕ) → e ≤ f → x * e ≤ (x + d) * f
    under x d e f h = omega (arith, mul-le-mul_left x h)

    go : Dec (P ≤ P') → x * sum_num P' Q ≤ (x + d) * sum_num P Q
    go (no n) = under x d _ _ (sum_monotone P' P Q 40 (back P P' n))
      where
        back : (a b : ℕ) → (a ≤ b → ⊥) → b ≤ a
        back a b n = omega arith
    go (yes l) = over (le_dest l)
      where
        over : (D : ℕ) × (P + D ≡ P') → x * sum_num P' Q ≤ (x + d) * sum_num P Q
        over (D, e) =
            subst (λ (z : ℕ). x * sum_num z Q ≤ (x + d) * sum_num P Q) e
            (le_of_mul-le-mul_right {k = Q}
            (turned _ _ (most_shape x d D Q (sum_num (P + D) Q) (sum_to (P + D) Q 39) (sum_num P Q) (sum_grows_at_most P D Q 39 (lit< tt))
            (le_trans (le-add_right _ _) (le_of_eq (sym (next-term (P + D) Q 39))))
            (gap x d P D (subst (λ (z : ℕ). (x + d) * z ≤ (x + d) * P + d * Q) (sym e) h)))) pQ)
          where
            gap : (x d P D : ℕ) → (x + d) * (P + D) ≤ (x + d) * P + d * Q → (x + d) * D ≤ d * Q
            gap x d P D h = omega arith

            turned : (a b : ℕ) → Q * a ≤ Q * b → a * Q ≤ b * Q
            turned a b h = omega arith

-- P'/Q at least P/Q + (1 - 1/c)·d/x, for P/Q up to 1: the sum grows at least by the factor 1 + (1 - 1/c)(1 - 1/39!)·d/x
at_least :
    (x d c P P' Q : ℕ) → 0 < Q → P ≤ Q → suc c * (x * P) + c * (d * Q) ≤ suc c * (x * P') → P ≤ P'
    → factorial 39 * (suc c * (x * sum_num P Q)) + factorial 39 * (c * (d * sum_num P Q))
    ≤ factorial 39 * (suc c * (x * sum_num P' Q)) + c * (d * sum_num P Q)
at_least x d c P P' Q pQ small h l = over (le_dest l)
  where
    over :
        (D : ℕ) × (P + D ≡ P')
        → factorial 39 * (suc c * (x * sum_num P Q)) + factorial 39 * (c * (d * sum_num P Q))
        ≤ factorial 39 * (suc c * (x * sum_num P' Q)) + c * (d * sum_num P Q)
    over (D, e) =
        subst
        (λ (z : ℕ). factorial 39 * (suc c * (x * sum_num P Q)) + factorial 39 * (c * (d * sum_num P Q))
        ≤ factorial 39 * (suc c * (x * sum_num z Q)) + c * (d * sum_num P Q)) e
        (shape (sum_num P Q) (sum_to P Q 39) (sum_num (P + D) Q) (factorial 39) (without_last P Q small)
        (sum_grows_at_least P D Q 39 (lit< tt))
        (gap c x d P D (subst (λ (z : ℕ). suc c * (x * P) + c * (d * Q) ≤ suc c * (x * z)) (sym e) h)))
      where
        gap : (c x d P D : ℕ) → suc c * (x * P) + c * (d * Q) ≤ suc c * (x * (P + D)) → c * (d * Q) ≤ suc c * (x * D)
        gap c x d P D h = omega arith

        shape :
            (f g e F : ℕ) → F * f ≤ F * g + f → Q * f + D * g ≤ Q * e → c * (d * Q) ≤ suc c * (x * D)
            → F * (suc c * (x * f)) + F * (c * (d * f)) ≤ F * (suc c * (x * e)) + c * (d * f)
        shape f g e F i j k =
            le_of_mul-le-mul_right {k = Q}
            (last _ _ _ _ _ _ (first (mul-le-mul_left (F * (suc c * x)) j)) (second (mul-le-mul_left (F * g) k))
            (third (mul-le-mul_left (c * d * Q) i)))
            pQ
          where
            first :
                F * (suc c * x) * (Q * f + D * g) ≤ F * (suc c * x) * (Q * e)
                → F * (suc c * (x * f)) * Q + F * g * (suc c * (x * D)) ≤ F * (suc c * (x * e)) * Q
            first = go c
              where
                go :
                    (c : ℕ) → F * (suc c * x) * (Q * f + D * g) ≤ F * (suc c * x) * (Q * e)
                    → F * (suc c * (x * f)) * Q + F * g * (suc c * (x * D)) ≤ F * (suc c * (x * e)) * Q
                go c h = omega arith

            second : F * g * (c * (d * Q)) ≤ F * g * (suc c * (x * D)) → F * g * (c * (d * Q)) ≤ F * g * (suc c * (x * D))
            second h = h

            third : c * d * Q * (F * f) ≤ c * d * Q * (F * g + f) → F * (c * (d * f)) * Q ≤ F * g * (c * (d * Q)) + c * (d * f) * Q
            third h = omega arith

            last : (a b e n k m : ℕ) → a * Q + k ≤ e * Q → m ≤ k → b * Q ≤ m + n * Q → (a + b) * Q ≤ (e + n) * Q
            last a b e n k m h i j = omega arith

-- ---- any two fractions, crosswise

at_common : (p q p' q' : ℕ) → sum_num (p * q') (q * q') ≡ sum_num p q * q' ^ 39
at_common p q p' q' = sum_of-scaled q' p q 40 (lit≤ tt)

at_common' : (p q p' q' : ℕ) → sum_num (p' * q) (q * q') ≡ sum_num p' q' * q ^ 39
at_common' p q p' q' = ap (λ (x : ℕ). sum_num (p' * q) x) (mul_comm q q') ∙ sum_of-scaled q p' q' 40 (lit≤ tt)

module _ (p q p' q' : ℕ) (pq : 0 < q) (pq' : 0 < q') where
  -- p/q up to p'/q': the sum grows
  pub E-grows : p * q' ≤ p' * q → sum_num p q * q' ^ 39 ≤ sum_num p' q' * q ^ 39
  E-grows h =
      le_trans (le_of_eq (sym (at_common p q p' q')))
      (le_trans (sum_monotone (p * q') (p' * q) (q * q') 40 h) (le_of_eq (at_common' p q p' q')))

  -- p'/q' at most p/q + d/(x+d)
  pub E-at_most :
      (x d : ℕ) → (x + d) * (p' * q) ≤ (x + d) * (p * q') + d * (q * q') → x * (sum_num p' q' * q ^ 39) ≤ (x + d) * (sum_num p q * q' ^ 39)
  E-at_most x d h =
      rw (← (at_common' p q p' q'), ← (at_common p q p' q')) (at_most x d (p * q') (p' * q) (q * q') (mul-pos pq pq') h)

  -- p'/q' at least p/q + (1 - 1/(c+1))·d/x
  pub E-at_least :
      (x d c : ℕ) → p ≤ q → p * q' ≤ p' * q → suc c * (x * (p * q')) + c * (d * (q * q')) ≤ suc c * (x * (p' * q))
      → factorial 39 * (suc c * (x * (sum_num p q * q' ^ 39))) + factorial 39 * (c * (d * (sum_num p q * q' ^ 39)))
      ≤ factorial 39 * (suc c * (x * (sum_num p' q' * q ^ 39))) + c * (d * (sum_num p q * q' ^ 39))
  E-at_least x d c small l h =
      rw (← (at_common' p q p' q'), ← (at_common p q p' q'))
      (at_least x d c (p * q') (p' * q) (q * q') (mul-pos pq pq') (mul-le-mul_right q' small) h l)
