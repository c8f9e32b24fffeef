-- The turns of the loop that walks over the records. Assumes nothing.
use mathlib.Core.Path.{◌≡◌, refl, sym, ap, ◌∙◌}
use Prim.Native.Nat.{ℕ, suc, ◌+◌, ◌*◌, ◌-◌, ◌≤◌, ◌<◌}
use mathlib.Core.Bool.{Bool, true, false}
use mathlib.Core.List.{List}
use native.Mathlib.Omega.{arith}
use lib.Dec.{eqb}
use lib.ListN.{length, drop, length-drop}
use lib.Seq.{drop-drop}
use borrow.Author.Tests.{eq-eqb, ne_eqb, eqb-true, eqb-false}
use Rattle.octets.specs.words.Words.{word_at}
use Rattle.octets.proofs.words.Runs.{word_behind}
use Rattle.trace_layout.specs.Records.{size_at, laid_at}
use Rattle.trace_layout.specs.Traces.{walks}

-- ---- two numbers, one of them moved

eqb_same : (x : Bool) (a b c d : ℕ) → eqb a b ≡ x → (a ≡ b → c ≡ d) → (c ≡ d → a ≡ b) → x ≡ eqb c d
eqb_same true a b c d h to back = sym (eq-eqb c d (to (eqb-true a b h)))
eqb_same false a b c d h to back = sym (ne_eqb c d (λ e. eqb-false a b h (back e)))

pub eqb-moved : (a b n : ℕ) → b ≤ n → eqb a (n - b) ≡ eqb (a + b) n
eqb-moved a b n h = eqb_same (eqb a (n - b)) a (n - b) (a + b) n refl (λ e. omega arith) (λ e. omega arith)

-- ---- a turn: what is left to walk

module _ (e count at i : ℕ) (body entries : List ℕ) (more : i < count) where
  abbrev left : Bool
  left = walks e (count - i) at (drop at body) (drop (8 * i) entries)

  turns : count - i ≡ suc (count - (i + 1))
  turns = omega arith

  entry_here : word_at 8 (drop (8 * i) entries) 0 ≡ word_at 8 entries (8 * i)
  entry_here = let none : 8 * i ≡ 8 * i + 0 = omega arith in sym (ap (word_at 8 entries) none ∙ word_behind 8 entries (8 * i) 0)

  pub not_laid : laid_at e (drop at body) ≡ false → false ≡ left
  unfolding walks
  not_laid h = rw (turns, h)

  pub other_entry : laid_at e (drop at body) ≡ true → (word_at 8 entries (8 * i) ≡ at → ⊥) → false ≡ left
  unfolding walks
  other_entry laid other = rw (turns, laid, entry_here, ne_eqb (word_at 8 entries (8 * i)) at other)

  -- n is the length of the record that was found
  module _ (n : ℕ) (laid : laid_at e (drop at body) ≡ true) (size : n ≡ size_at e (drop at body)) where
    pub walked_on : word_at 8 entries (8 * i) ≡ at → walks e (count - (i + 1)) (at + n) (drop (at + n) body) (drop (8 * (i + 1)) entries)
        ≡ left
    unfolding walks
    walked_on here =
        let next : 8 * (i + 1) ≡ 8 * i + 8 = omega arith in
        rw (
          turns,
          laid,
          entry_here,
          eq-eqb (word_at 8 entries (8 * i)) at here,
          ← size,
          drop-drop n at body,
          drop-drop 8 (8 * i) entries,
          next,
        )

pub walked_all : (e count at i : ℕ) (body entries : List ℕ) → count ≤ i → at ≤ length body → eqb at (length body)
    ≡ walks e (count - i) at (drop at body) (drop (8 * i) entries)
unfolding walks
walked_all e count at i body entries h inside =
    let none : count - i ≡ 0 = omega arith in
    rw (none, length-drop at body)
    (eqb_same (eqb at (length body)) at (length body) (length body - at) 0 refl (λ e. omega arith) (λ e. omega arith))
