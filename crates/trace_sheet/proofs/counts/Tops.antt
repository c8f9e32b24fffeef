-- The larger of two, the earlier on a tie: where the brackets stand does not matter, and no records are nothing to it. Assumes nothing.
use mathlib.Core.Path.{◌≡◌, refl, sym, ap, ◌∙◌, subst}
use mathlib.Core.Bool.{Bool, true, false}
use mathlib.Core.List.{List, [], ◌∷◌, ◌++◌, map}
use Prim.Native.Nat.{ℕ, ◌+◌, ◌<◌, ◌≤◌}
use native.Mathlib.Omega.{arith}
use lib.Dec.{eqb, ltb}
use borrow.Author.Tests.{lt-ltb, le-ltb, ltb-true, ltb-false, eqb-true, ne_eqb}
use Rattle.trace_sheet.specs.declared.counts.Largest.{Largest}
use Rattle.trace_sheet.specs.counts.Counts.{Entry, none, largest_in, larger_of, largest_of, moved_up}

module _ (s t : Largest) where
  pub larger_second : s.size < t.size → larger_of s t ≡ t
  unfolding larger_of
  larger_second h = rw (lt-ltb s.size t.size h)

  pub larger_first : t.size ≤ s.size → larger_of s t ≡ s
  unfolding larger_of
  larger_first h = rw (le-ltb s.size t.size h)

  -- it is one of the two
  larger_by : (P : Largest → Type 0) → (s.size < t.size → P t) → (t.size ≤ s.size → P s) → (b : Bool) → ltb s.size t.size ≡ b
      → P (larger_of s t)
  larger_by P second first true e = let h = ltb-true s.size t.size e in subst P (sym (larger_second h)) (second h)
  larger_by P second first false e = let h = ltb-false s.size t.size e in subst P (sym (larger_first h)) (first h)

  pub larger_cases : (P : Largest → Type 0) → (s.size < t.size → P t) → (t.size ≤ s.size → P s) → P (larger_of s t)
  larger_cases P second first = larger_by P second first (ltb s.size t.size) refl

pub larger_assoc : (r s t : Largest) → larger_of (larger_of r s) t ≡ larger_of r (larger_of s t)
larger_assoc r s t =
    larger_cases r s (λ (x : Largest). larger_of x t ≡ larger_of r (larger_of s t))
    (λ h. larger_cases s t (λ (y : Largest). larger_of s t ≡ larger_of r y)
    (λ k. larger_second s t k ∙ sym (larger_second r t (omega arith)))
    (λ k. larger_first s t k ∙ sym (larger_second r s h)))
    (λ h. larger_cases s t (λ (y : Largest). larger_of r t ≡ larger_of r y) (λ k. refl)
    (λ k. larger_first r t (omega arith) ∙ sym (larger_first r s h)))

pub larger_none : (s : Largest) → larger_of s none ≡ s
larger_none s = larger_first s none (omega arith)

-- a largest of no size is that of no records
pub empty-none : (es : List Entry) → (largest_of es).size ≡ 0 → largest_of es ≡ none
unfolding largest_of
empty-none [] h = refl
empty-none (e ∷ es) h =
    absurd (larger_cases (largest_in e) (largest_of es) (λ (x : Largest). x.size ≡ 0 → ⊥) (λ a b. omega arith) (λ a b. omega arith) h)

pub none_larger : (es : List Entry) → larger_of none (largest_of es) ≡ largest_of es
none_larger es =
    larger_cases none (largest_of es) (λ (x : Largest). x ≡ largest_of es) (λ h. refl) (λ h. sym (empty-none es (omega arith)))

pub largest-append : (xs ys : List Entry) → largest_of (xs ++ ys) ≡ larger_of (largest_of xs) (largest_of ys)
unfolding largest_of
largest-append [] ys = sym (none_larger ys)
largest-append (x ∷ xs) ys = ap (larger_of (largest_in x)) (largest-append xs ys)
    ∙ sym (larger_assoc (largest_in x) (largest_of xs) (largest_of ys))

-- ---- file numbers moved up

abbrev pub up_entry : ℕ → Entry → Entry
up_entry n e = record { step = e.step; tests = e.tests; file = e.file + n; at = e.at }

up_size_by : (n : ℕ) (t : Largest) (b : Bool) → eqb t.size 0 ≡ b → (moved_up n t).size ≡ t.size
unfolding moved_up
up_size_by n t true e = rw e (sym (eqb-true t.size 0 e))
up_size_by n t false e = rw e

pub up_size : (n : ℕ) (t : Largest) → (moved_up n t).size ≡ t.size
up_size n t = up_size_by n t (eqb t.size 0) refl

up_larger : (n : ℕ) (s t : Largest) → moved_up n (larger_of s t) ≡ larger_of (moved_up n s) (moved_up n t)
up_larger n s t =
    larger_cases s t (λ (x : Largest). moved_up n x ≡ larger_of (moved_up n s) (moved_up n t))
    (λ h. sym (larger_second (moved_up n s) (moved_up n t) (omega (arith, up_size n s, up_size n t))))
    (λ h. sym (larger_first (moved_up n s) (moved_up n t) (omega (arith, up_size n s, up_size n t))))

up_one : (n : ℕ) (e : Entry) → moved_up n (largest_in e) ≡ largest_in (up_entry n e)
unfolding moved_up
up_one n e = rw (ne_eqb (e.tests + 1) 0 (λ h. omega arith))

pub largest_up : (n : ℕ) (es : List Entry) → largest_of (map (up_entry n) es) ≡ moved_up n (largest_of es)
unfolding largest_of moved_up
largest_up n [] = refl
largest_up n (e ∷ es) =
    ap (larger_of (largest_in (up_entry n e))) (largest_up n es)
    ∙ ap (λ (x : Largest). larger_of x (moved_up n (largest_of es))) (sym (up_one n e))
    ∙ sym (up_larger n (largest_in e) (largest_of es))
