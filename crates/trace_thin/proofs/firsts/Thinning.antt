-- What `firsts` keeps: one turn; no more than there were; what is kept is kept again; the first of each kind; and that it is the same for
-- records and for their bytes. Assumes nothing.
use mathlib.Core.Path.{◌≡◌, refl, sym, ap, ◌∙◌}
use mathlib.Core.Bool.{Bool, true, false, ◌||◌}
use mathlib.Core.List.{List, [], ◌∷◌, ◌++◌, map}
use Prim.Native.Nat.{ℕ, ◌≤◌}
use native.Mathlib.Omega.{arith}
use lib.ListN.{length}
use Rattle.octets.specs.equal_bytes.Equal.{equal_bytes, among}
use Rattle.octets.proofs.equal_bytes.Equality.{equal_true}
use Rattle.trace_thin.specs.firsts.Firsts.{firsts_behind, new_behind}

-- ---- a row among several

or-none : (p : Bool) → (p || false) ≡ p
or-none true = refl
or-none false = refl

or_assoc : (p q r : Bool) → (p || (q || r)) ≡ ((p || q) || r)
or_assoc true q r = refl
or_assoc false q r = refl

among_more : (x k : List ℕ) (ks : List (List ℕ)) → among x (ks ++ (k ∷ [])) ≡ (among x ks || equal_bytes x k)
unfolding among
among_more x k [] = or-none (equal_bytes x k)
among_more x k (y ∷ ks) =
    ap (λ (t : Bool). equal_bytes x y || t) (among_more x k ks) ∙ or_assoc (equal_bytes x y) (among x ks) (equal_bytes x k)

-- ---- one turn

module _ {A : Type 0} (bytes : A → List ℕ) where
  pub firsts-none : (ks : List (List ℕ)) → firsts_behind bytes ks [] ≡ []
  unfolding firsts_behind
  firsts-none ks = refl

  module _ (ks : List (List ℕ)) (r : A) (rs : List A) where
    pub firsts_dropped : among (bytes r) ks ≡ true → firsts_behind bytes ks (r ∷ rs) ≡ firsts_behind bytes ks rs
    unfolding firsts_behind
    firsts_dropped e = rw e

    pub firsts_kept : among (bytes r) ks ≡ false
        → firsts_behind bytes ks (r ∷ rs) ≡ r ∷ firsts_behind bytes (ks ++ (bytes r ∷ [])) rs
    unfolding firsts_behind
    firsts_kept e = rw e

  -- ---- no more are kept than there were

  fewer_by : (ks : List (List ℕ)) (r : A) (rs : List A) (b : Bool) → among (bytes r) ks ≡ b
      → length (firsts_behind bytes ks rs) ≤ length rs → length (firsts_behind bytes (ks ++ (bytes r ∷ [])) rs) ≤ length rs
      → length (firsts_behind bytes ks (r ∷ rs)) ≤ length (r ∷ rs)
  fewer_by ks r rs true e d k = omega (arith, ap length (firsts_dropped ks r rs e))
  fewer_by ks r rs false e d k = omega (arith, ap length (firsts_kept ks r rs e))

  pub fewer : (ks : List (List ℕ)) (rs : List A) → length (firsts_behind bytes ks rs) ≤ length rs
  fewer ks [] = omega (arith, ap length (firsts-none ks))
  fewer ks (r ∷ rs) = fewer_by ks r rs (among (bytes r) ks) refl (fewer ks rs) (fewer (ks ++ (bytes r ∷ [])) rs)

  -- ---- 02, Order 13: "Thinning the result again drops none"

  again_by : (ks : List (List ℕ)) (r : A) (rs : List A) (b : Bool) → among (bytes r) ks ≡ b
      → firsts_behind bytes ks (firsts_behind bytes ks rs) ≡ firsts_behind bytes ks rs
      → (let more = ks ++ (bytes r ∷ []) in firsts_behind bytes more (firsts_behind bytes more rs) ≡ firsts_behind bytes more rs)
      → firsts_behind bytes ks (firsts_behind bytes ks (r ∷ rs)) ≡ firsts_behind bytes ks (r ∷ rs)
  again_by ks r rs true e d k = ap (firsts_behind bytes ks) (firsts_dropped ks r rs e) ∙ d ∙ sym (firsts_dropped ks r rs e)
  again_by ks r rs false e d k =
      ap (firsts_behind bytes ks) (firsts_kept ks r rs e) ∙ firsts_kept ks r (firsts_behind bytes (ks ++ (bytes r ∷ [])) rs) e
      ∙ ap (λ (l : List A). r ∷ l) k ∙ sym (firsts_kept ks r rs e)

  pub again : (ks : List (List ℕ)) (rs : List A) → firsts_behind bytes ks (firsts_behind bytes ks rs) ≡ firsts_behind bytes ks rs
  again ks [] = ap (firsts_behind bytes ks) (firsts-none ks)
  again ks (r ∷ rs) = again_by ks r rs (among (bytes r) ks) refl (again ks rs) (again (ks ++ (bytes r ∷ [])) rs)

  -- ---- the first of each kind: the kept ones so far, and all so far, are the same rows but for how often

  abbrev SameRows : List (List ℕ) → List (List ℕ) → Type 0
  SameRows ks es = (x : List ℕ) → among x ks ≡ among x es

  both_more : (ks es : List (List ℕ)) (k : List ℕ) → SameRows ks es → SameRows (ks ++ (k ∷ [])) (es ++ (k ∷ []))
  both_more ks es k s x = among_more x k ks ∙ ap (λ (t : Bool). t || equal_bytes x k) (s x) ∙ sym (among_more x k es)

  absorbed : (x k : List ℕ) (es : List (List ℕ)) → among k es ≡ true → (b : Bool) → equal_bytes x k ≡ b
      → among x es ≡ (among x es || equal_bytes x k)
  absorbed x k es h true e = let is : among x es ≡ true = ap (λ (y : List ℕ). among y es) (equal_true x k e) ∙ h in rw is
  absorbed x k es h false e = rw e (sym (or-none (among x es)))

  all_more : (ks es : List (List ℕ)) (k : List ℕ) → SameRows ks es → among k es ≡ true → SameRows ks (es ++ (k ∷ []))
  all_more ks es k s h x = s x ∙ absorbed x k es h (equal_bytes x k) refl ∙ sym (among_more x k es)

  new_dropped : (es : List (List ℕ)) (r : A) (rs : List A) → among (bytes r) es ≡ true
      → new_behind bytes es (r ∷ rs) ≡ new_behind bytes (es ++ (bytes r ∷ [])) rs
  unfolding new_behind
  new_dropped es r rs e = rw e

  new_kept : (es : List (List ℕ)) (r : A) (rs : List A) → among (bytes r) es ≡ false
      → new_behind bytes es (r ∷ rs) ≡ r ∷ new_behind bytes (es ++ (bytes r ∷ [])) rs
  unfolding new_behind
  new_kept es r rs e = rw e

  new_none : (es : List (List ℕ)) → [] ≡ new_behind bytes es []
  unfolding new_behind
  new_none es = refl

  abbrev Alike : List A → Type 0
  Alike rs = (ks es : List (List ℕ)) → SameRows ks es → firsts_behind bytes ks rs ≡ new_behind bytes es rs

  kind_by : (ks es : List (List ℕ)) (r : A) (rs : List A) → SameRows ks es → Alike rs → (b : Bool) → among (bytes r) ks ≡ b
      → firsts_behind bytes ks (r ∷ rs) ≡ new_behind bytes es (r ∷ rs)
  kind_by ks es r rs s later true e =
      let seen : among (bytes r) es ≡ true = sym (s (bytes r)) ∙ e in
      firsts_dropped ks r rs e ∙ later ks (es ++ (bytes r ∷ [])) (all_more ks es (bytes r) s seen) ∙ sym (new_dropped es r rs seen)
  kind_by ks es r rs s later false e =
      let unseen : among (bytes r) es ≡ false = sym (s (bytes r)) ∙ e in
      firsts_kept ks r rs e
      ∙ ap (λ (l : List A). r ∷ l) (later (ks ++ (bytes r ∷ [])) (es ++ (bytes r ∷ [])) (both_more ks es (bytes r) s))
      ∙ sym (new_kept es r rs unseen)

  alike : (rs : List A) → Alike rs
  alike [] ks es s = firsts-none ks ∙ new_none es
  alike (r ∷ rs) ks es s = kind_by ks es r rs s (alike rs) (among (bytes r) ks) refl

  pub first_of_kind : (rs : List A) → firsts_behind bytes [] rs ≡ new_behind bytes [] rs
  first_of_kind rs = alike rs [] [] (λ x. refl)

-- ---- the same for records and for their bytes

abbrev itself : List ℕ → List ℕ
itself p = p

rows-by : {A : Type 0} (bytes : A → List ℕ) (ks : List (List ℕ)) (r : A) (rs : List A) (b : Bool) → among (bytes r) ks ≡ b
    → map bytes (firsts_behind bytes ks rs) ≡ firsts_behind itself ks (map bytes rs)
    → (let more = ks ++ (bytes r ∷ []) in map bytes (firsts_behind bytes more rs) ≡ firsts_behind itself more (map bytes rs))
    → map bytes (firsts_behind bytes ks (r ∷ rs)) ≡ firsts_behind itself ks (bytes r ∷ map bytes rs)
rows-by bytes ks r rs true e d k =
    ap (map bytes) (firsts_dropped bytes ks r rs e) ∙ d ∙ sym (firsts_dropped itself ks (bytes r) (map bytes rs) e)
rows-by bytes ks r rs false e d k =
    ap (map bytes) (firsts_kept bytes ks r rs e) ∙ ap (λ (l : List (List ℕ)). bytes r ∷ l) k
    ∙ sym (firsts_kept itself ks (bytes r) (map bytes rs) e)

rows_of_firsts : {A : Type 0} (bytes : A → List ℕ) (ks : List (List ℕ)) (rs : List A)
    → map bytes (firsts_behind bytes ks rs) ≡ firsts_behind itself ks (map bytes rs)
rows_of_firsts bytes ks [] = ap (map bytes) (firsts-none bytes ks) ∙ sym (firsts-none itself ks)
rows_of_firsts bytes ks (r ∷ rs) =
    rows-by bytes ks r rs (among (bytes r) ks) refl (rows_of_firsts bytes ks rs) (rows_of_firsts bytes (ks ++ (bytes r ∷ [])) rs)

-- so two lists of the same bytes have the same bytes kept
pub same_firsts : {A B : Type 0} (f : A → List ℕ) (g : B → List ℕ) (xs : List A) (ys : List B) → map f xs ≡ map g ys
    → map f (firsts_behind f [] xs) ≡ map g (firsts_behind g [] ys)
same_firsts f g xs ys h = rows_of_firsts f [] xs ∙ ap (firsts_behind itself []) h ∙ sym (rows_of_firsts g [] ys)
