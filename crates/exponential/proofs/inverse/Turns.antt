-- Document 01's x = j·S(1/3) + r with the whole number j, in whole numbers from 0 up: j is u - f. Assumes nothing.
use Rattle.std.proofs.Common.{◌≡◌, ℕ, suc, ◌+◌, ◌*◌, ◌^◌, Bool, true, false, cond, ℤ, pos, negsuc, ◌+ℤ◌, ◌*ℤ◌, neg_ℤ, sym, refl, ap, ◌∙◌, arith}
use lib.IntN.{pos-+ℤ-pos, pos-*ℤ-pos, negsuc-*ℤ-pos, +ℤ_assoc, +ℤ_invl, +ℤ_invr, +ℤ_comm, +ℤ_idr, +ℤ_idl}
use lib.Ieee.{up, down}
use Rattle.exponential.specs.Sum.{third_num, third_den}
use Rattle.exponential.specs.Bound.{with_sign, Parted}

pub record Turns (s : Bool) (a b : ℕ) (j : ℤ) (p : ℕ) : Type 0 where
  pub u : ℕ
  pub f : ℕ
  pub up_is : up j ≡ 2 ^ u
  pub down_is : down j ≡ 2 ^ f
  pub whole : cond s 0 a * third_den + f * (third_num * b) ≡ u * (third_num * b) + p + cond s a 0 * third_den

pos_inj : (m n : ℕ) → pos m ≡ pos n → m ≡ n
pos_inj m n e = cc

-- -m = k gives 0 = k + m, and m + n = -k + .. likewise
added : (x y : ℤ) (k : ℕ) → x ≡ y → x +ℤ pos k ≡ y +ℤ pos k
added x y k e = ap (λ (z : ℤ). z +ℤ pos k) e

turned_back : (m k : ℕ) → neg_ℤ (pos m) ≡ pos k → 0 ≡ k + m
turned_back m k e = pos_inj 0 (k + m) (sym (+ℤ_invl (pos m)) ∙ added _ _ m e ∙ pos-+ℤ-pos k m)

-- y = -k + p gives y + k = p
without : (y : ℤ) (k p : ℕ) → y ≡ neg_ℤ (pos k) +ℤ pos p → y +ℤ pos k ≡ pos p
without y k p e =
    added _ _ k e ∙ ap (λ (z : ℤ). z +ℤ pos k) (+ℤ_comm (neg_ℤ (pos k)) (pos p)) ∙ +ℤ_assoc (pos p) (neg_ℤ (pos k)) (pos k)
    ∙ ap (λ (z : ℤ). pos p +ℤ z) (+ℤ_invl (pos k)) ∙ +ℤ_idr (pos p)

at-rise : (s : Bool) (A n M p : ℕ) → with_sign s A ≡ pos n *ℤ pos M +ℤ pos p → cond s 0 A + 0 * M ≡ n * M + p + cond s A 0
at-rise false A n M p e = omega (arith, pos_inj A (n * M + p) (e ∙ ap (λ (z : ℤ). z +ℤ pos p) (pos-*ℤ-pos n M) ∙ pos-+ℤ-pos (n * M) p))
at-rise true A n M p e =
    omega (arith, turned_back A (n * M + p) (e ∙ ap (λ (z : ℤ). z +ℤ pos p) (pos-*ℤ-pos n M) ∙ pos-+ℤ-pos (n * M) p))

at-fall : (s : Bool) (A n M p : ℕ) → with_sign s A ≡ negsuc n *ℤ pos M +ℤ pos p → cond s 0 A + suc n * M ≡ 0 * M + p + cond s A 0
at-fall false A n M p e =
    omega (
      arith,
      pos_inj (A + suc n * M) p
          (sym (pos-+ℤ-pos A (suc n * M)) ∙ without (pos A) (suc n * M) p (e ∙ ap (λ (z : ℤ). z +ℤ pos p) (negsuc-*ℤ-pos n M))),
    )
at-fall true A n M p e =
    omega (
      arith,
      pos_inj (suc n * M) (p + A)
          (sym (+ℤ_idl (pos (suc n * M))) ∙ ap (λ (z : ℤ). z +ℤ pos (suc n * M)) (sym (+ℤ_invr (pos A)))
          ∙ +ℤ_assoc (pos A) (neg_ℤ (pos A)) (pos (suc n * M))
          ∙ ap (λ (z : ℤ). pos A +ℤ z) (without (neg_ℤ (pos A)) (suc n * M) p (e ∙ ap (λ (z : ℤ). z +ℤ pos p) (negsuc-*ℤ-pos n M)))
          ∙ +ℤ_comm (pos A) (pos p) ∙ pos-+ℤ-pos p A),
    )

scaled : (s : Bool) (a D x y : ℕ) → cond s 0 (a * D) + x ≡ y + cond s (a * D) 0 → cond s 0 a * D + x ≡ y + cond s a 0 * D
scaled true a D x y e = omega arith
scaled false a D x y e = omega arith

pub turns : (s : Bool) (a b : ℕ) (j : ℤ) (p : ℕ) → Parted s a b j p → Turns s a b j p
turns s a b (pos n) p h = record {
  u = n;
  f = 0;
  up_is = refl;
  down_is = refl;
  whole = scaled s a third_den _ _ (at-rise s (a * third_den) n (third_num * b) p h.whole);
}
turns s a b (negsuc n) p h = record {
  u = 0;
  f = suc n;
  up_is = refl;
  down_is = refl;
  whole = scaled s a third_den _ _ (at-fall s (a * third_den) n (third_num * b) p h.whole);
}
