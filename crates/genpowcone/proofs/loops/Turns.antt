-- A fold of a list, or of two lists zipped, takes turns by index: `iter` of the specifications. Assumes nothing.
use Rattle.std.proofs.Common.{◌≡◌, ℕ, zero, suc, min, List, [], ◌∷◌, length, sym, refl, ap, ◌∙◌}
use Rattle.std.specs.Prelude.{Option, fold, zip}
use Rattle.std.specs.Fn.{Called}
use Rattle.std.specs.Iterator.{Drains}
use Rattle.std.specs.List.{FoldsTo}
use Rattle.std.proofs.lemmas.Iterator.{YieldsList}
use Rattle.std.proofs.lemmas.Iterator.Consumers.{fold_from_yields_List}
use denote.Param.Members.{Mut}
use native.Mathlib.Nat.{zero-min, min-zero, suc-min-suc}
use lib.Ieee.{Float}
use Rattle.arith.specs.Turns.{iter}
use Rattle.double.specs.Operators.{at}

module _ {A : Type 0} where
  -- the first of n + 1 turns, taken before the others
  iter-first : (f : ℕ → A → A) (a : A) (n : ℕ) → iter (λ (i : ℕ). f (suc i)) (f 0 a) n ≡ iter f a (suc n)
  unfolding iter
  iter-first f a zero = refl
  iter-first f a (suc n) = ap (f (suc n)) (iter-first f a n)

  pub fold_turns : (f : A → Float → A) (a : A) (xs : List Float) → fold f a xs ≡ iter (λ (i : ℕ) (t : A). f t (at xs i)) a (length xs)
  unfolding iter
  fold_turns f a [] = refl
  fold_turns f a (x ∷ xs) = fold_turns f (f a x) xs ∙ iter-first (λ (i : ℕ) (t : A). f t (at (x ∷ xs) i)) a (length xs)

  pub zip_turns
      : (f : A → Float → Float → A) (a : A) (xs ys : List Float)
      → fold (λ (t : A) (p : Float × Float). f t p.0 p.1) a (zip xs ys)
      ≡ iter (λ (i : ℕ) (t : A). f t (at xs i) (at ys i)) a (min (length xs) (length ys))
  unfolding iter
  zip_turns f a [] ys = ap (iter (λ (i : ℕ) (t : A). f t (at [] i) (at ys i)) a) (sym (zero-min (length ys)))
  zip_turns f a (x ∷ xs) [] = ap (iter (λ (i : ℕ) (t : A). f t (at (x ∷ xs) i) (at [] i)) a) (sym (min-zero (length (x ∷ xs))))
  zip_turns f a (x ∷ xs) (y ∷ ys) =
      zip_turns f (f a x y) xs ys
      ∙ iter-first (λ (i : ℕ) (t : A). f t (at (x ∷ xs) i) (at (y ∷ ys) i)) a (min (length xs) (length ys))
      ∙ ap (iter (λ (i : ℕ) (t : A). f t (at (x ∷ xs) i) (at (y ∷ ys) i)) a) (sym (suc-min-suc (length xs) (length ys)))

  -- what a fold over a zip gives, by what each call of its closure gives
  pub zip-folded
      : {S I F : Type 0} {steps : S → Option I → S → Type 0} {v : I → Float × Float} {s : S} (xs ys : List Float)
      → (g : Mut F (A × (I × Unit {0})) A) (turn : A → Float → Float → A) {f : F} (a r : A)
      → (is : List I)
      × (q : F)
      × Drains steps s is
      × FoldsTo {P = F × A} (λ p x q. Called g p.0 (p.1, (x, tt)) q.1 q.0) (f, a) is (q, r)
      → YieldsList steps v s (zip xs ys)
      → ((t : A) (x : I) (u : A) (q : F) → Called g f (t, (x, tt)) u q → (q ≡ f) × (u ≡ turn t (v x).0 (v x).1))
      → r ≡ iter (λ (i : ℕ) (t : A). turn t (at xs i) (at ys i)) a (min (length xs) (length ys))
  zip-folded xs ys g turn a r ran yields each =
      fold_from_yields_List g (λ (t : A) (p : Float × Float). turn t p.0 p.1) a r ran yields each ∙ zip_turns turn a xs ys
