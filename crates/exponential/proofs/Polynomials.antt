-- Polynomials in whole numbers, about another point. Division by y - a leaves the value at a; the quotient divided again leaves the next
-- coefficient about a, and so on. Two polynomials are near each other where these coefficients are. Assumes nothing.
use Rattle.std.proofs.Common.{◌≡◌, ℕ, ◌+◌, ◌*◌, ◌≤◌, Bool, false, T, leb, List, [], ◌∷◌, sym, subst, le_trans, le_refl, add-le-add, mul-le-mul_right, mul-le-mul, mul-le-mul_left, arith, leb→le}
use Rattle.arith.proofs.Tables.{both, both_left, both_right}
use Rattle.rounding.specs.Within.{Within}

-- the value at y; the coefficients are listed from the constant one on
unfoldable pub value_at : List ℕ → ℕ → ℕ
value_at [] y = 0
value_at (k ∷ ks) y = k + y * value_at ks y

-- what it has over its value at a, divided by y - a
unfoldable pub quotient : ℕ → List ℕ → List ℕ
unfolding value_at
quotient a [] = []
quotient a (k ∷ ks) = value_at ks a ∷ quotient a ks

divided : (a x : ℕ) (p : List ℕ) → value_at p (a + x) ≡ value_at p a + x * value_at (quotient a p) (a + x)
unfolding value_at quotient
divided a x [] = omega arith
divided a x (k ∷ ks) = go (value_at ks (a + x)) (value_at ks a) (value_at (quotient a ks) (a + x)) (divided a x ks)
  where
    go : (v w q : ℕ) → v ≡ w + x * q → k + (a + x) * v ≡ k + a * w + x * (w + (a + x) * q)
    go v w q e = subst (λ (u : ℕ). k + (a + x) * u ≡ k + a * w + x * (w + (a + x) * q)) (sym e) (omega arith)

rising : (p : List ℕ) {y z : ℕ} → y ≤ z → value_at p y ≤ value_at p z
unfolding value_at
rising [] h = le_refl 0
rising (k ∷ ks) h = add-le-add (le_refl k) (mul-le-mul h (rising ks h))

-- M times p about a is near N times g, for every distance up to X from a. The bounds stand beside the coefficients: a coefficient's own
-- distance, and X times what the others may be apart, fit into its bound; the last bound holds what p has beyond g's coefficients.
module _ (a X M N : ℕ) where
  unfoldable pub near_each : List ℕ → List ℕ → List ℕ → Bool
  unfolding value_at quotient
  near_each p [] [] = false
  near_each p [] (b ∷ bs) = leb (M * value_at p (a + X)) b
  near_each p (g ∷ gs) [] = false
  near_each p (g ∷ gs) (b ∷ []) = false
  near_each p (g ∷ gs) (b ∷ c ∷ bs) =
      both (leb (M * value_at p a + X * c) (N * g + b))
      (both (leb (N * g + X * c) (M * value_at p a + b)) (near_each (quotient a p) gs (c ∷ bs)))

  step :
      (x f F g G b c : ℕ) → x ≤ X → M * f + X * c ≤ N * g + b → N * g + X * c ≤ M * f + b → Within (M * F) (N * G) c
      → Within (M * (f + x * F)) (N * (g + x * G)) b
  step x f F g G b c l above below w = record {
    not-above = omega (arith, above, mul-le-mul_left x w.not-above, mul-le-mul_right c l);
    not-below = omega (arith, below, mul-le-mul_left x w.not-below, mul-le-mul_right c l);
  }

  pub near_each_holds :
      (p g : List ℕ) (b : ℕ) (bs : List ℕ) → T (near_each p g (b ∷ bs)) → (x : ℕ) → x ≤ X → Within (M * value_at p (a + x)) (N * value_at g x) b
  unfolding near_each value_at
  near_each_holds p [] b bs t x l = record {
    not-above =
        go (M * value_at p (a + x)) (le_trans (mul-le-mul_left M (rising p (add-le-add (le_refl a) l))) (leb→le (M * value_at p (a + X)) b t));
    not-below = omega arith;
  }
    where
      go : (v : ℕ) → v ≤ b → v ≤ N * 0 + b
      go v h = omega arith
  near_each_holds p (g ∷ gs) b [] t x l = absurd t
  near_each_holds p (g ∷ gs) b (c ∷ bs) t x l =
      let first : Bool = leb (M * value_at p a + X * c) (N * g + b) in
      let second : Bool = leb (N * g + X * c) (M * value_at p a + b) in
      let others = both_right first _ t in
      subst (λ (v : ℕ). Within (M * v) (N * (g + x * value_at gs x)) b) (sym (divided a x p))
      (step x (value_at p a) (value_at (quotient a p) (a + x)) g (value_at gs x) b c l
      (leb→le (M * value_at p a + X * c) (N * g + b) (both_left first _ t))
      (leb→le (N * g + X * c) (M * value_at p a + b) (both_left second _ others))
      (near_each_holds (quotient a p) gs c bs (both_right second _ others) x l))
