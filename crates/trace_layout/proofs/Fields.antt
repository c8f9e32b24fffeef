-- Each part of the record at the front of a row of bytes stands at its place. Assumes nothing.
use mathlib.Core.Path.{◌≡◌, refl, sym, ap, ◌∙◌}
use mathlib.Core.Bool.{cond}
use mathlib.Core.List.{List}
use Prim.Native.Nat.{ℕ, zero, suc, ◌+◌, ◌*◌, ◌-◌}
use native.Mathlib.Omega.{arith}
use lib.Dec.{eqb}
use lib.ListN.{take, drop, get_or}
use borrow.Author.Tests.{ne_eqb}
use Rattle.octets.specs.words.Words.{word_at, row_of}
use Rattle.octets.specs.words.Runs.{Run, runs_size}
use Rattle.octets.proofs.words.Runs.{word_behind, number_at, row_at}
use Rattle.trace_layout.specs.Records.{Record, rules_in, exponents, settings_in, runs_for, flag_place, kind_at, dim1_at, dim2_at, rule_at}
use Rattle.trace_layout.specs.Records.{flag_at, runs_at, size_at, of_rows, record_at}

-- the first number of a row, or 1
first_of : (n : ℕ) (bs : List ℕ) → get_or (row_of 4 n bs) 0 1 ≡ cond (eqb n 0) 1 (word_at 4 bs 0)
unfolding row_of word_at
first_of zero bs = refl
first_of (suc n) bs = rw (ne_eqb (suc n) 0 (λ e. omega (arith, e)))

module _ (e : ℕ) (t : List ℕ) where
  abbrev R : List Run
  R = runs_at e t

  abbrev r : Record
  r = record_at e t

  abbrev n : ℕ
  n = dim1_at t + dim2_at t

  -- behind the flag and the settings
  abbrev vectors : ℕ
  vectors = flag_place e (kind_at t) (dim1_at t) + 4 + 8 * settings_in (flag_at e t)

  pub kind_of : r.kind ≡ kind_at t
  unfolding record_at of_rows runs_for runs_size
  kind_of = sym (number_at R t 2 0 (omega arith))

  pub dim1_of : r.dim1 ≡ dim1_at t
  unfolding record_at of_rows runs_for runs_size
  dim1_of = sym (number_at R t 3 0 (omega arith))

  pub dim2_of : r.dim2 ≡ dim2_at t
  unfolding record_at of_rows runs_for runs_size
  dim2_of = sym (number_at R t 4 0 (omega arith))

  pub rule-of : r.rule ≡ rule_at e t
  unfolding record_at of_rows runs_for runs_size rule_at
  rule-of =
      let place : runs_size (take 5 R) ≡ 20 = omega arith in
      ap (λ (rules : List ℕ). get_or rules 0 1) (row_at R t 5 (omega arith) ∙ ap (λ (k : ℕ). row_of 4 (rules_in e) (drop k t)) place)
      ∙ first_of (rules_in e) (drop 20 t)
      ∙ ap (cond (eqb (rules_in e) 0) 1) (sym (word_behind 4 t 20 0))

  pub exps_of : r.exps ≡ row_of 8 (exponents (kind_at t) (dim1_at t)) (drop (20 + 4 * rules_in e) t)
  unfolding record_at of_rows runs_for runs_size
  exps_of =
      let place : runs_size (take 6 R) ≡ 20 + 4 * rules_in e = omega arith in
      row_at R t 6 (omega arith) ∙ ap (λ (k : ℕ). row_of 8 (exponents (kind_at t) (dim1_at t)) (drop k t)) place

  pub start_of : r.start ≡ word_at 8 t (flag_place e (kind_at t) (dim1_at t) - 8)
  unfolding record_at of_rows runs_for runs_size flag_place
  start_of =
      let place : runs_size (take 7 R) + 8 * 0 ≡ flag_place e (kind_at t) (dim1_at t) - 8 = omega arith in
      sym (number_at R t 7 0 (omega arith)) ∙ ap (word_at 8 t) place

  pub flag_of : r.flag ≡ flag_at e t
  unfolding record_at of_rows runs_for runs_size flag_place
  flag_of =
      let place : runs_size (take 8 R) + 4 * 0 ≡ flag_place e (kind_at t) (dim1_at t) = omega arith in
      sym (number_at R t 8 0 (omega arith)) ∙ ap (word_at 4 t) place

  module _ (own : settings_in (flag_at e t) ≡ 2) where
    pub step_of : get_or r.settings 0 0 ≡ word_at 8 t (flag_place e (kind_at t) (dim1_at t) + 4)
    unfolding record_at of_rows runs_for runs_size flag_place
    step_of =
        let place : runs_size (take 9 R) + 8 * 0 ≡ flag_place e (kind_at t) (dim1_at t) + 4 = omega arith in
        sym (number_at R t 9 0 (omega (arith, own))) ∙ ap (word_at 8 t) place

    pub smallest_of : get_or r.settings 1 0 ≡ word_at 8 t (flag_place e (kind_at t) (dim1_at t) + 12)
    unfolding record_at of_rows runs_for runs_size flag_place
    smallest_of =
        let place : runs_size (take 9 R) + 8 * 1 ≡ flag_place e (kind_at t) (dim1_at t) + 12 = omega arith in
        sym (number_at R t 9 1 (omega (arith, own))) ∙ ap (word_at 8 t) place

  pub dz_of : r.dz ≡ row_of 8 n (drop vectors t)
  unfolding record_at of_rows runs_for runs_size flag_place
  dz_of =
      let place : runs_size (take 10 R) ≡ vectors = omega arith in
      row_at R t 10 (omega arith) ∙ ap (λ (k : ℕ). row_of 8 n (drop k t)) place

  pub ds_of : r.ds ≡ row_of 8 n (drop (vectors + 8 * n) t)
  unfolding record_at of_rows runs_for runs_size flag_place
  ds_of =
      let place : runs_size (take 11 R) ≡ vectors + 8 * n = omega arith in
      row_at R t 11 (omega arith) ∙ ap (λ (k : ℕ). row_of 8 n (drop k t)) place

  pub z_of : r.z ≡ row_of 8 n (drop (vectors + 16 * n) t)
  unfolding record_at of_rows runs_for runs_size flag_place
  z_of =
      let place : runs_size (take 12 R) ≡ vectors + 16 * n = omega arith in
      row_at R t 12 (omega arith) ∙ ap (λ (k : ℕ). row_of 8 n (drop k t)) place

  pub s_of : r.s ≡ row_of 8 n (drop (vectors + 24 * n) t)
  unfolding record_at of_rows runs_for runs_size flag_place
  s_of =
      let place : runs_size (take 13 R) ≡ vectors + 24 * n = omega arith in
      row_at R t 13 (omega arith) ∙ ap (λ (k : ℕ). row_of 8 n (drop k t)) place

  pub dualstep_of : r.dualstep ≡ word_at 8 t (size_at e t - 24)
  unfolding record_at of_rows runs_for runs_size
  dualstep_of =
      let place : runs_size (take 14 R) + 8 * 0 ≡ size_at e t - 24 = omega arith in
      sym (number_at R t 14 0 (omega arith)) ∙ ap (word_at 8 t) place

  pub dualcount_of : r.dualcount ≡ word_at 4 t (size_at e t - 16)
  unfolding record_at of_rows runs_for runs_size
  dualcount_of =
      let place : runs_size (take 15 R) + 4 * 0 ≡ size_at e t - 16 = omega arith in
      sym (number_at R t 15 0 (omega arith)) ∙ ap (word_at 4 t) place

  pub primalstep_of : r.primalstep ≡ word_at 8 t (size_at e t - 12)
  unfolding record_at of_rows runs_for runs_size
  primalstep_of =
      let place : runs_size (take 16 R) + 8 * 0 ≡ size_at e t - 12 = omega arith in
      sym (number_at R t 16 0 (omega arith)) ∙ ap (word_at 8 t) place

  pub primalcount_of : r.primalcount ≡ word_at 4 t (size_at e t - 4)
  unfolding record_at of_rows runs_for runs_size
  primalcount_of =
      let place : runs_size (take 17 R) + 4 * 0 ≡ size_at e t - 4 = omega arith in
      sym (number_at R t 17 0 (omega arith)) ∙ ap (word_at 4 t) place
