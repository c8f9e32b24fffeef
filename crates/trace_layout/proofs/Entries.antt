-- The list's entry i is where record i stands. Assumes nothing.
use mathlib.Core.Path.{◌≡◌, ap, ◌∙◌}
use Prim.Native.Nat.{ℕ, zero, suc, ◌+◌, ◌*◌, ◌-◌, ◌≤◌, ◌<◌}
use mathlib.Core.Bool.{true, ◌&&◌}
use mathlib.Core.List.{List, []}
use native.Mathlib.Omega.{arith}
use lib.Dec.{eqb}
use lib.ListN.{take, drop, get_or}
use lib.Seq.{drop-drop}
use borrow.Author.Tests.{eqb-true}
use Rattle.arith.proofs.Branches.{and_left, and_right}
use Rattle.octets.specs.words.Words.{word_at}
use Rattle.octets.proofs.words.Runs.{word_behind}
use Rattle.trace_layout.specs.Records.{Record, record_at, laid_at, size_at}
use Rattle.trace_layout.specs.Traces.{list_at, count_at, edition_at, trailer_ok, walks, good_trace, records_in, records_of}

-- the record of a list at a place that it has not
pub none_read : ℕ → Record
none_read e = record_at e []

pub record Stands (e at o : ℕ) (t : List ℕ) (r : Record) : Type 0 where
  pub behind : at ≤ o
  pub laid : laid_at e (drop (o - at) t) ≡ true
  pub read : record_at e (drop (o - at) t) ≡ r

-- the first one stands at the front
entry_first : (e at o : ℕ) (t : List ℕ) → laid_at e t ≡ true → o ≡ at → Stands e at o t (record_at e t)
entry_first e at o t laid here =
    let none : o - at ≡ 0 = omega arith in
    record { behind = omega arith; laid = rw none laid; read = rw none }

-- one that stands in what is behind the first
entry_later : (e at size o : ℕ) (t : List ℕ) (r : Record) → Stands e (at + size) o (drop size t) r → Stands e at o t r
entry_later e at size o t r far =
    let there = far.behind in
    let moved : size + (o - (at + size)) ≡ o - at = omega arith in
    let place : drop (o - (at + size)) (drop size t) ≡ drop (o - at) t =
    drop-drop (o - (at + size)) size t ∙ ap (λ (k : ℕ). drop k t) moved in
    record { behind = omega arith; laid = rw (← place) far.laid; read = rw (← place) far.read }

-- the tests of one turn
record Turned (e n at : ℕ) (t entries : List ℕ) : Type 0 where
  pub laid : laid_at e t ≡ true
  pub here : word_at 8 entries 0 ≡ at
  pub later : walks e n (at + size_at e t) (drop (size_at e t) t) (drop 8 entries) ≡ true

turned : (e n at : ℕ) (t entries : List ℕ) → walks e (suc n) at t entries ≡ true → Turned e n at t entries
unfolding walks
turned e n at t entries h =
    let later = walks e n (at + size_at e t) (drop (size_at e t) t) (drop 8 entries) in
    let both = and_left (laid_at e t && eqb (word_at 8 entries 0) at) later h in
    record {
      laid = and_left (laid_at e t) (eqb (word_at 8 entries 0) at) both;
      here = eqb-true (word_at 8 entries 0) at (and_right (laid_at e t) (eqb (word_at 8 entries 0) at) both);
      later = and_right (laid_at e t && eqb (word_at 8 entries 0) at) later h;
    }

next-entry : (entries : List ℕ) (i : ℕ) → word_at 8 entries (8 * suc i) ≡ word_at 8 (drop 8 entries) (8 * i)
next-entry entries i = let next : 8 * suc i ≡ 8 + 8 * i = omega arith in ap (word_at 8 entries) next ∙ word_behind 8 entries 8 (8 * i)

at_entry : (e at : ℕ) (t : List ℕ) (r : Record) (o p : ℕ) → o ≡ p → Stands e at p t r → Stands e at o t r
at_entry e at t r o p h s = rw h s

pub entry_stands : (e n at : ℕ) (t entries : List ℕ) (d : Record) → walks e n at t entries ≡ true → (i : ℕ) → i < n
    → Stands e at (word_at 8 entries (8 * i)) t (get_or (records_in e n t) i d)
unfolding records_in
entry_stands e zero at t entries d h i g = absurd (omega arith)
entry_stands e (suc n) at t entries d h zero g =
    let w = turned e n at t entries h in entry_first e at (word_at 8 entries 0) t w.laid w.here
entry_stands e (suc n) at t entries d h (suc i) g =
    at_entry e at t (get_or (records_in e n (drop (size_at e t) t)) i d) (word_at 8 entries (8 * suc i)) (word_at 8 (drop 8 entries)
    (8 * i))
    (next-entry entries i)
    (entry_later e at (size_at e t) (word_at 8 (drop 8 entries) (8 * i)) t (get_or (records_in e n (drop (size_at e t) t)) i d)
    (entry_stands e n (at + size_at e t) (drop (size_at e t) t) (drop 8 entries) d (turned e n at t entries h).later i (omega arith)))

module _ (bs : List ℕ) (good : good_trace bs ≡ true) (d : Record) (i : ℕ) (few : i < count_at bs) where
  abbrev e : ℕ
  e = edition_at bs

  abbrev o : ℕ
  o = word_at 8 bs (list_at bs + 8 * i)

  stands : Stands e 0 o (take (list_at bs) bs) (get_or (records_of bs) i d)
  unfolding good_trace records_of
  stands =
      rw (word_behind 8 bs (list_at bs) (8 * i))
      (entry_stands e (count_at bs) 0 (take (list_at bs) bs) (drop (list_at bs) bs) d
      (and_right (trailer_ok bs) (walks e (count_at bs) 0 (take (list_at bs) bs) (drop (list_at bs) bs)) good) i few)

  pub entry_laid : laid_at e (drop o (take (list_at bs) bs)) ≡ true
  entry_laid = let z : o - 0 ≡ o = omega arith in rw z at stands.laid

  pub entry_read : record_at e (drop o (take (list_at bs) bs)) ≡ get_or (records_of bs) i d
  entry_read = let z : o - 0 ≡ o = omega arith in rw z at stands.read
