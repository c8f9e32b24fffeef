-- `edition_of` meets its contract: its three tests, one behind the other. Assumes nothing.
use mathlib.Core.Path.{◌≡◌}
use mathlib.Core.List.{List}
use Prim.Native.Nat.{ℕ, ◌-◌, ◌≤◌, ◌<◌}
use native.Mathlib.Omega.{arith}
use lib.ListN.{length, get_or}
use borrow.Author.Tests.{eq-eqb, ne_eqb, le-leb, lt-leb}
use Rattle.trace_rescue.specs.file.Printed.{edition_of}
use Rattle.trace_rescue.proofs.file.edition_of.Goals as goal

other_length : (w : List ℕ) → (length w ≡ 1 → ⊥) → 0 ≡ edition_of w
unfolding edition_of
other_length w h = rw (ne_eqb (length w) 1 h)

below : (w : List ℕ) → length w ≡ 1 → get_or w 0 0 < 48 → 0 ≡ edition_of w
unfolding edition_of
below w one h = rw (eq-eqb (length w) 1 one, lt-leb 48 (get_or w 0 0) h)

above : (w : List ℕ) → length w ≡ 1 → 48 ≤ get_or w 0 0 → 57 < get_or w 0 0 → 0 ≡ edition_of w
unfolding edition_of
above w one h g = rw (eq-eqb (length w) 1 one, le-leb 48 (get_or w 0 0) h, lt-leb (get_or w 0 0) 57 g)

digit : (w : List ℕ) → length w ≡ 1 → 48 ≤ get_or w 0 0 → get_or w 0 0 ≤ 57 → get_or w 0 0 - 48 ≡ edition_of w
unfolding edition_of
digit w one h g = rw (eq-eqb (length w) 1 one, le-leb 48 (get_or w 0 0) h, le-leb (get_or w 0 0) 57 g)

pub returns-then-word-ne1 : goal.returns-then-word-ne1
returns-then-word-ne1 c = other_length c.args.word.now c.if-word-ne1.true

pub returns-then-digit-lt48 : goal.returns-then-digit-lt48
returns-then-digit-lt48 c = below c.args.word.now c.if-word-ne1.false c.if-digit-lt48.true

pub returns-then-digit-gt57 : goal.returns-then-digit-gt57
returns-then-digit-gt57 c =
    above c.args.word.now c.if-word-ne1.false c.if-digit-lt48.false c.if-digit-gt57.true

pub returns : goal.returns
returns c =
    digit c.args.word.now c.if-word-ne1.false c.if-digit-lt48.false c.if-digit-gt57.false

pub bounds-word-0 : goal.bounds-word-0
bounds-word-0 c = omega (arith, c.if-word-ne1.false)
