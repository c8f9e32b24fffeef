-- A list p that a loop fills from the front with the elements of a list l: after i turns, `take i p ≡ take i l`. Assumes nothing.
use mathlib.Core.Path.{◌≡◌, sym, ap, ◌∙◌, subst}
use mathlib.Core.List.{List, [], ◌∷◌, ◌++◌}
use Prim.Native.Nat.{ℕ, ◌+◌, ◌<◌}
use native.Mathlib.Numerals.{add-one}
use lib.ListN.{length, take, set, get_or}
use lib.Seq.{take-suc-set, take-suc, take-length}

module _ {A : Type 0} (p l : List A) (i : ℕ) where
  -- one turn more: place i gets the element of l
  pub fill_more : (a z : A) → i < length p → i < length l → take i p ≡ take i l → a ≡ get_or l i z → take (i + 1) (set p i a) ≡ take (i + 1) l
  fill_more a z hp hl e f =
      subst (λ (k : ℕ). take k (set p i a) ≡ take k l) (sym (add-one i))
      (take-suc-set p i a hp ∙ ap (λ (t : List A). t ++ (a ∷ [])) e ∙ ap (λ (x : A). take i l ++ (x ∷ [])) f ∙ sym (take-suc l i z hl))

  -- the last turn: nothing of p is left
  pub fill_end : length p ≡ i → length l ≡ i → take i p ≡ take i l → p ≡ l
  fill_end hp hl e = sym (take-length p) ∙ ap (λ (k : ℕ). take k p) hp ∙ e ∙ ap (λ (k : ℕ). take k l) (sym hl) ∙ take-length l
