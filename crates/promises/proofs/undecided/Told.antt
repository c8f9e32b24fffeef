-- What a residue and a margin tell: nothing beside a boundless margin, and beside one without a sign what the residue's own sign tells.
-- Assumes nothing.
use mathlib.Core.Path.{◌≡◌, refl, sym, subst}
use mathlib.Core.Bool.{Bool, true, false, cond, ◌&&◌}
use Prim.Native.Nat.{ℕ, ◌*◌, ◌<◌}
use native.Mathlib.Nat.{zero-mul, mul-one}
use native.Mathlib.Omega.{arith}
use lib.Dec.{T}
use lib.Ieee.{Float, nan, inf, fin, up, down, neg, lt, of_bits}
use lib.Ieee.Positive.{first_pos}
use borrow.Author.Tests.{ltb-true, lt-ltb}
use Rattle.arith.proofs.Branches.{false_not_true}
use Rattle.double.specs.Operators.{◌≺◌}
use Rattle.double.specs.Numbers.{#0}
use Rattle.cone.specs.declared.verdict.Answer.{Answer}
use Rattle.cone.specs.declared.verdict.Answer.TheVariants.{No, Yes, Undecided}
use Rattle.cone.specs.verdict.Answers.{told_of, judged}
use Rattle.promises.proofs.undecided.Unsigned.{unsigned}
use Rattle.promises.proofs.undecided.Boundless.{boundless}

not-above : (m r : Float) → T (boundless m) → (m ≺ r) ≡ false
unfolding lt
not-above nan r h = refl
not-above (inf true) r h = absurd h
not-above (inf false) nan h = refl
not-above (inf false) (inf t) h = refl
not-above (inf false) (fin t n d) h = refl
not-above (fin s m e) r h = absurd h

not-below : (m r : Float) → T (boundless m) → (r ≺ neg m) ≡ false
unfolding lt neg
not-below nan nan h = refl
not-below nan (inf s) h = refl
not-below nan (fin s m e) h = refl
not-below (inf true) r h = absurd h
not-below (inf false) nan h = refl
not-below (inf false) (inf true) h = refl
not-below (inf false) (inf false) h = refl
not-below (inf false) (fin s m e) h = refl
not-below (fin s m e) r h = absurd h

-- 02: "else undecided, NaN and infinite margins included": no test for them is needed
pub boundless_undecided : (signs : Bool) (res margin : Float) → signs ≡ true → T (boundless margin) → judged signs res margin ≡ Undecided
unfolding told_of
boundless_undecided signs res margin s h = rw (s, not-above margin res h, not-below margin res h)

-- nor does a NaN residue tell anything
nan_not_above : (m : Float) → (m ≺ nan) ≡ false
unfolding lt
nan_not_above nan = refl
nan_not_above (inf s) = refl
nan_not_above (fin s m e) = refl

nan_not_below : (m : Float) → (nan ≺ m) ≡ false
unfolding lt
nan_not_below m = refl

pub nan_undecided : (signs : Bool) (res margin : Float) → signs ≡ true → res ≡ nan → judged signs res margin ≡ Undecided
unfolding told_of
nan_undecided signs res margin s e = rw (s, e, nan_not_above margin, nan_not_below (neg margin))

-- ---- what is decided was decided so before

some-over : (a b d k : ℕ) → a * d < b * k → 0 < b * 1
some-over a b d k h = rw (mul-one b) (first_pos b k (omega arith))

-- a residue above the margin is above 0
above_zero : (m r : Float) → T (unsigned m) → (m ≺ r) ≡ true → (#0 ≺ r) ≡ true
unfolding lt of_bits
above_zero nan r u h = absurd (false_not_true h)
above_zero (inf true) r u h = absurd u
above_zero (inf false) nan u h = absurd (false_not_true h)
above_zero (inf false) (inf t) u h = absurd (false_not_true h)
above_zero (inf false) (fin t n d) u h = absurd (false_not_true h)
above_zero (fin true m e) r u h = absurd u
above_zero (fin false m e) nan u h = absurd (false_not_true h)
above_zero (fin false m e) (inf t) u h = h
above_zero (fin false m e) (fin true n d) u h = absurd (false_not_true h)
above_zero (fin false m e) (fin false n d) u h =
    lt-ltb (0 * 1 * down d) (n * up d * 1) (subst (λ (k : ℕ). k < n * up d * 1) (sym (zero-mul (down d)))
    (some-over (m * up e) (n * up d) (down d) (down e) (ltb-true (m * up e * down d) (n * up d * down e) h)))

-- one below minus the margin is not
not_above_zero : (m r : Float) → T (unsigned m) → (r ≺ neg m) ≡ true → (#0 ≺ r) ≡ false
unfolding lt neg of_bits
not_above_zero nan nan u h = refl
not_above_zero nan (inf s) u h = absurd (false_not_true h)
not_above_zero nan (fin s n d) u h = absurd (false_not_true h)
not_above_zero (inf true) r u h = absurd u
not_above_zero (inf false) nan u h = refl
not_above_zero (inf false) (inf true) u h = refl
not_above_zero (inf false) (inf false) u h = absurd (false_not_true h)
not_above_zero (inf false) (fin s n d) u h = absurd (false_not_true h)
not_above_zero (fin true m e) r u h = absurd u
not_above_zero (fin false m e) nan u h = refl
not_above_zero (fin false m e) (inf true) u h = refl
not_above_zero (fin false m e) (inf false) u h = absurd (false_not_true h)
not_above_zero (fin false m e) (fin true n d) u h = refl
not_above_zero (fin false m e) (fin false n d) u h = absurd (false_not_true h)

is_yes : Answer → Bool
is_yes No = false
is_yes Yes = true
is_yes Undecided = false

is_no : Answer → Bool
is_no No = true
is_no Yes = false
is_no Undecided = false

-- the margin is asked for its sign only where the sign tests hold
module _ (signs : Bool) (res margin : Float) (u : signs ≡ true → T (unsigned margin)) where
  pub yes_before : judged signs res margin ≡ Yes → (signs && (#0 ≺ res)) ≡ true
  unfolding told_of is_yes
  yes_before e = go signs refl (margin ≺ res) refl (res ≺ neg margin) (subst (λ (a : Answer). T (is_yes a)) (sym e) tt)
    where
      go : (s : Bool) → signs ≡ s → (a : Bool) → (margin ≺ res) ≡ a → (b : Bool) → T (is_yes (cond s (cond a Yes (cond b No Undecided)) No))
          → (s && (#0 ≺ res)) ≡ true
      go true q true h b t = above_zero margin res (u q) h
      go true q false h true t = absurd t
      go true q false h false t = absurd t
      go false q a h b t = absurd t

  pub no_before : judged signs res margin ≡ No → (signs && (#0 ≺ res)) ≡ false
  unfolding told_of is_no
  no_before e = go signs refl (margin ≺ res) (res ≺ neg margin) refl (subst (λ (a : Answer). T (is_no a)) (sym e) tt)
    where
      go : (s : Bool) → signs ≡ s → (a b : Bool) → (res ≺ neg margin) ≡ b → T (is_no (cond s (cond a Yes (cond b No Undecided)) No))
          → (s && (#0 ≺ res)) ≡ false
      go true q true b h t = absurd t
      go true q false true h t = not_above_zero margin res (u q) h
      go true q false false h t = absurd t
      go false q a b h t = refl
