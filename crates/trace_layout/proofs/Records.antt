-- A record that was written is read back the same, and one that is read was written so. Assumes nothing.
use mathlib.Core.Path.{◌≡◌, refl, sym, ap, ◌∙◌}
use Prim.Native.Nat.{ℕ, zero, suc, ◌+◌, ◌*◌, ◌-◌, ◌^◌, ◌<◌, ◌≤◌}
use mathlib.Core.Bool.{Bool, true, false, cond, ◌&&◌}
use mathlib.Core.List.{List, [], ◌∷◌, ◌++◌}
use native.Mathlib.Omega.{arith}
use lib.Dec.{eqb, leb, leb→le}
use lib.ListN.{length, take, drop, get_or, replicate, length-append, length-replicate, length-drop}
use borrow.Author.Tests.{eq-eqb, eqb-true, leb-true, le-leb, ltb-true}
use mathlib.Core.Logic.{◌⊎◌, inl, inr, ⊎_elim}
use Rattle.arith.proofs.Branches.{and_left, and_right, false_not_true}
use Rattle.octets.specs.words.Words.{word_at, row_of, AllBelow}
use Rattle.octets.specs.words.Runs.{Run, runs_size, runs_of, Suits}
use Rattle.octets.proofs.words.Runs.{no_run, number_at, RowSuits, suits_at, only_below, length-runs_bytes, runs_of-runs_bytes}
use Rattle.octets.proofs.words.Runs.{runs_bytes-runs_of}
use Rattle.octets.proofs.words.Runs.{runs_of_suits}
use Rattle.trace_layout.specs.Records.{Record, Laid, Sized, step_mark, rules_in, exponents, settings_in, run, runs_for, runs_in, size_in}
use Rattle.trace_layout.specs.Records.{one, rows_in, bytes_of, dims_ok, step_ok, shape_ok, kind_at, dim1_at, dim2_at, flag_place, flag_at}
use Rattle.trace_layout.specs.Records.{runs_at, size_at, laid_at, only, row, of_rows, record_at}
use Rattle.trace_layout.proofs.Fields.{kind_of, dim1_of, dim2_of, flag_of, dualstep_of, primalstep_of}

-- the rows of a record are taken back to the record
rows-rule : (n x : ℕ) → (n ≡ 0 → x ≡ 1) → get_or (replicate n x) 0 1 ≡ x
rows-rule zero x h = sym (h refl)
rows-rule (suc n) x h = refl

of_rows-rows_in : (e : ℕ) (r : Record) → Laid e r → of_rows (rows_in e r) ≡ r
unfolding of_rows rows_in
of_rows-rows_in e r h = rw (rows-rule (rules_in e) r.rule h.ruled)

-- ---- what the shape bounds

of-cond : (b : Bool) (x y : Bool) → cond b x y ≡ true → ((b ≡ true) × (x ≡ true)) ⊎ ((b ≡ false) × (y ≡ true))
of-cond true x y h = inl (refl, h)
of-cond false x y h = inr (refl, h)

pub record Bounds (k d₁ d₂ f : ℕ) : Type 0 where
  pub kind : k ≤ 3
  pub dim1 : d₁ ≤ 32
  pub dim2 : d₂ ≤ 32
  pub flag : f ≤ 1

four : (a b c d : Bool) → (a && b && c && d) ≡ true → (a ≡ true) × (b ≡ true) × (c ≡ true) × (d ≡ true)
four true true true true h = (refl, refl, refl, refl)
four true true true false h = absurd (false_not_true h)
four true true false d h = absurd (false_not_true h)
four true false c d h = absurd (false_not_true h)
four false b c d h = absurd (false_not_true h)

pub bounds : (k d₁ d₂ f : ℕ) → shape_ok k d₁ d₂ f ≡ true → Bounds k d₁ d₂ f
unfolding shape_ok dims_ok
bounds k d₁ d₂ f h =
    let flag : f ≤ 1 = leb-true f 1 (and_right (dims_ok k d₁ d₂) (leb f 1) h) in
    ⊎_elim
    (λ w. let p = four (leb 1 d₁) (leb d₁ 32) (leb 1 d₂) (leb d₂ 32) w.1 in
    record { kind = omega (arith, eqb-true k 3 w.0); dim1 = leb-true d₁ 32 p.1; dim2 = leb-true d₂ 32 p.3; flag = flag })
    (λ w. let p = four (leb 1 k) (leb k 2) (eqb d₁ 3) (eqb d₂ 0) w.1 in
    record {
      kind =
          omega (arith, leb-true k 2 p.1);
      dim1 = omega (arith, eqb-true d₁ 3 p.2);
      dim2 = omega
          (arith, eqb-true d₂ 0 p.3);
      flag = flag;
    })
    (of-cond (eqb k 3) _ _ (and_left (dims_ok k d₁ d₂) (leb f 1) h))

cond-le : (b : Bool) (x y n : ℕ) → x ≤ n → y ≤ n → cond b x y ≤ n
cond-le true x y n h g = h
cond-le false x y n h g = g

pub rules_most : (e : ℕ) → rules_in e ≤ 1
unfolding rules_in
rules_most e = cond-le (eqb e 3) 1 0 1 (omega arith) (omega arith)

pub exponents-most : (k d₁ n : ℕ) → 1 ≤ n → d₁ ≤ n → exponents k d₁ ≤ n
unfolding exponents
exponents-most k d₁ n one h = cond-le (eqb k 3) d₁ _ n h (cond-le (eqb k 2) 1 0 n one (omega arith))

pub settings-most : (f : ℕ) → settings_in f ≤ 2
unfolding settings_in
settings-most f = cond-le (eqb f 0) 2 0 2 (omega arith) (omega arith)

pub size-most : (e k d₁ d₂ f : ℕ) → Bounds k d₁ d₂ f → runs_size (runs_for e k d₁ d₂ f) ≤ 2380
unfolding runs_for runs_size
size-most e k d₁ d₂ f b = omega (arith, rules_most e, exponents-most k d₁ 32 (omega arith) b.dim1, settings-most f, b.dim1, b.dim2)

-- the two steps and two counts stand at the end
pub size-least : (e k d₁ d₂ f : ℕ) → 56 ≤ runs_size (runs_for e k d₁ d₂ f)
unfolding runs_for runs_size
size-least e k d₁ d₂ f = omega arith

-- ---- written, then read

all_replicate : (m n x : ℕ) → x < m → AllBelow m (replicate n x)
unfolding AllBelow
all_replicate m zero x h = tt
all_replicate m (suc n) x h = (h, all_replicate m n x h)

step_fits : (w : ℕ) → step_ok w ≡ true → w < 256 ^ 8
unfolding step_ok
step_fits w h = omega (arith, ltb-true w 0x7ff0_0000_0000_0000 h)

-- one run more in front, of a row and of one number
row_suits : (it : Run) (xs : List ℕ) (runs : List Run) (rows : List (List ℕ)) → length xs ≡ it.count → AllBelow (256 ^ it.width) xs
    → Suits runs rows → Suits (it ∷ runs) (xs ∷ rows)
unfolding Suits
row_suits it xs runs rows h g later = (h, g, later)

one_suits : (w x : ℕ) (runs : List Run) (rows : List (List ℕ)) → x < 256 ^ w → Suits runs rows → Suits (run w 1 ∷ runs) (one x ∷ rows)
unfolding Suits AllBelow
one_suits w x runs rows h later = (refl, (h, tt), later)

none_suits : Suits [] []
unfolding Suits
none_suits = tt

-- the numbers of a record fit their widths
suits : (e : ℕ) (r : Record) → Laid e r → Sized r → Suits (runs_in e r) (rows_in e r)
unfolding runs_for rows_in
suits e r h g =
    let b = bounds r.kind r.dim1 r.dim2 r.flag h.shape in
    one_suits _ _ _ _ (leb→le _ _ tt)
    (one_suits _ _ _ _ (omega (arith, size-most e r.kind r.dim1 r.dim2 r.flag b))
    (one_suits _ _ _ _ (omega (arith, b.kind))
    (one_suits _ _ _ _ (omega (arith, b.dim1))
    (one_suits _ _ _ _ (omega (arith, b.dim2))
    (row_suits _ _ _ _ (length-replicate (rules_in e) r.rule) (all_replicate _ (rules_in e) r.rule g.rule)
    (row_suits _ _ _ _ h.exps g.exps
    (one_suits _ _ _ _ g.start
    (one_suits _ _ _ _ (omega (arith, b.flag))
    (row_suits _ _ _ _ h.settings g.settings
    (row_suits _ _ _ _ h.dz g.dz
    (row_suits _ _ _ _ h.ds g.ds
    (row_suits _ _ _ _ h.z g.z
    (row_suits _ _ _ _ h.s g.s
    (one_suits _ _ _ _ (step_fits r.dualstep h.dualstep)
    (one_suits _ _ _ _ g.dualcount
    (one_suits _ _ _ _ (step_fits r.primalstep h.primalstep)
    (one_suits _ _ _ _ g.primalcount
    none_suits)))))))))))))))))

module _ (e : ℕ) (r : Record) (h : Laid e r) (g : Sized r) (rest : List ℕ) where
  abbrev R : List Run
  R = runs_in e r

  abbrev t : List ℕ
  t = bytes_of e r ++ rest

  rows_back : runs_of R t ≡ rows_in e r
  unfolding bytes_of
  rows_back = runs_of-runs_bytes R (rows_in e r) rest (suits e r h g)

  kind_back : kind_at t ≡ r.kind
  unfolding runs_for runs_size rows_in
  kind_back = number_at R t 2 0 (omega arith) ∙ ap (λ (rows : List (List ℕ)). only rows 2) rows_back

  dim1_back : dim1_at t ≡ r.dim1
  unfolding runs_for runs_size rows_in
  dim1_back = number_at R t 3 0 (omega arith) ∙ ap (λ (rows : List (List ℕ)). only rows 3) rows_back

  dim2_back : dim2_at t ≡ r.dim2
  unfolding runs_for runs_size rows_in
  dim2_back = number_at R t 4 0 (omega arith) ∙ ap (λ (rows : List (List ℕ)). only rows 4) rows_back

  flag_back : flag_at e t ≡ r.flag
  unfolding runs_for runs_size rows_in flag_place
  flag_back =
      let place : flag_place e (kind_at t) (dim1_at t) ≡ runs_size (take 8 R) + 4 * 0 = rw (kind_back, dim1_back) (omega arith) in
      ap (word_at 4 t) place ∙ number_at R t 8 0 (omega arith) ∙ ap (λ (rows : List (List ℕ)). only rows 8) rows_back

  runs_back : runs_at e t ≡ R
  runs_back = rw (flag_back, kind_back, dim1_back, dim2_back)

  pub size_back : size_at e t ≡ size_in e r
  size_back = ap runs_size runs_back

  pub record_back : record_at e t ≡ r
  unfolding record_at
  record_back = rw (runs_back, rows_back) (of_rows-rows_in e r h)

  mark_back : word_at 4 t 0 ≡ step_mark
  unfolding runs_for runs_size rows_in
  mark_back = number_at R t 0 0 (omega arith) ∙ ap (λ (rows : List (List ℕ)). only rows 0) rows_back

  length_back : word_at 4 t 4 ≡ size_in e r
  unfolding runs_for runs_size rows_in
  length_back = number_at R t 1 0 (omega arith) ∙ ap (λ (rows : List (List ℕ)). only rows 1) rows_back

  dualstep_back : word_at 8 t (size_in e r - 24) ≡ r.dualstep
  unfolding runs_for runs_size rows_in
  dualstep_back =
      let place : size_in e r - 24 ≡ runs_size (take 14 R) + 8 * 0 = omega arith in
      ap (word_at 8 t) place ∙ number_at R t 14 0 (omega arith) ∙ ap (λ (rows : List (List ℕ)). only rows 14) rows_back

  primalstep_back : word_at 8 t (size_in e r - 12) ≡ r.primalstep
  unfolding runs_for runs_size rows_in
  primalstep_back =
      let place : size_in e r - 12 ≡ runs_size (take 16 R) + 8 * 0 = omega arith in
      ap (word_at 8 t) place ∙ number_at R t 16 0 (omega arith) ∙ ap (λ (rows : List (List ℕ)). only rows 16) rows_back

  pub length-bytes_of : length (bytes_of e r) ≡ size_in e r
  unfolding bytes_of
  length-bytes_of = length-runs_bytes R (rows_in e r) (suits e r h g)

  pub laid_back : laid_at e t ≡ true
  unfolding laid_at
  laid_back =
      let room : leb (size_in e r) (length t) ≡ true = le-leb (size_in e r) (length t) (simp (length-append, length-bytes_of)
      (omega arith)) in
      let size : eqb (size_in e r) (size_in e r) ≡ true = eq-eqb (size_in e r) (size_in e r) refl in
      rw (
        flag_back,
        kind_back,
        dim1_back,
        dim2_back,
        mark_back,
        length_back,
        dualstep_back,
        primalstep_back,
        h.shape,
        size,
        room,
        h.dualstep,
        h.primalstep,
      )

-- ---- read, then written

rule_kept : (n : ℕ) (bs : List ℕ) → n ≤ 1 → replicate n (get_or (row_of 4 n bs) 0 1) ≡ row_of 4 n bs
unfolding row_of
rule_kept zero bs h = refl
rule_kept (suc zero) bs h = refl
rule_kept (suc (suc n)) bs h = absurd (omega arith)

-- the first number of a row, or 1
first_below : (n : ℕ) (row : List ℕ) → RowSuits (run 4 n) row → get_or row 0 1 < 256 ^ 4
unfolding AllBelow
first_below n [] h = leb→le _ _ tt
first_below n (x ∷ xs) h = h.below.0

-- what the tests of `laid_at` say
pub record Found (e : ℕ) (t : List ℕ) : Type 0 where
  pub mark : word_at 4 t 0 ≡ step_mark
  pub size : word_at 4 t 4 ≡ size_at e t
  pub shape : shape_ok (kind_at t) (dim1_at t) (dim2_at t) (flag_at e t) ≡ true
  pub room : size_at e t ≤ length t
  pub dualstep : step_ok (word_at 8 t (size_at e t - 24)) ≡ true
  pub primalstep : step_ok (word_at 8 t (size_at e t - 12)) ≡ true

module _ (a b c d f g : Bool) (h : (a && b && c && d && f && g) ≡ true) where
  six : (a ≡ true) × (b ≡ true) × (c ≡ true) × (d ≡ true) × (f ≡ true) × (g ≡ true)
  six =
      let to_f = and_left (a && b && c && d && f) g h in
      let to_d = and_left (a && b && c && d) f to_f in
      let to_c = and_left (a && b && c) d to_d in
      let to_b = and_left (a && b) c to_c in (
        and_left a b to_b,
        and_right a b to_b,
        and_right (a && b) c to_c,
        and_right (a && b && c) d to_d,
        and_right (a && b && c && d) f to_f,
        and_right (a && b && c && d && f) g h,
      )

pub found : (e : ℕ) (t : List ℕ) → laid_at e t ≡ true → Found e t
unfolding laid_at
found e t h =
    let p =
    six (eqb (word_at 4 t 0) step_mark) (eqb (word_at 4 t 4) (size_at e t)) (shape_ok (kind_at t) (dim1_at t) (dim2_at t) (flag_at e t))
    (leb (size_at e t) (length t)) (step_ok (word_at 8 t (size_at e t - 24))) (step_ok (word_at 8 t (size_at e t - 12))) h in
    record {
      mark =
          eqb-true _ _ p.0;
      size = eqb-true _ _ p.1;
      shape = p.2;
      room = leb-true _ _ p.3;
      dualstep = p.4;
      primalstep = p.5;
    }

-- a record that stands at a place ends within the bytes
pub laid_inside : (e at : ℕ) (bs : List ℕ) → laid_at e (drop at bs) ≡ true → at + size_at e (drop at bs) ≤ length bs
laid_inside e at bs h =
    let t = drop at bs in
    omega (arith, (found e t h).room, length-drop at bs, size-least e (kind_at t) (dim1_at t) (dim2_at t) (flag_at e t))

module _ (e : ℕ) (t : List ℕ) (bytes : AllBelow 256 t) (laid : laid_at e t ≡ true) where
  abbrev Rs : List Run
  Rs = runs_at e t

  abbrev r : Record
  r = record_at e t

  runs_read : runs_in e r ≡ Rs
  runs_read = rw (kind_of e t, dim1_of e t, dim2_of e t, flag_of e t)

  pub size-read : size_in e r ≡ size_at e t
  size-read = ap runs_size runs_read

  abbrev rows : List (List ℕ)
  rows = runs_of Rs t

  -- the rows that were read, with another mark, length and rule
  abbrev headed : ℕ → ℕ → List ℕ → List (List ℕ)
  headed mark size rules = one mark ∷ one size ∷ row rows 2 ∷ row rows 3 ∷ row rows 4 ∷ rules ∷ drop 6 rows

  rows-read : rows_in e r ≡ rows
  unfolding record_at of_rows runs_for rows_in runs_of row_of word_at
  rows-read =
      let f = found e t laid in
      let rules = row_of 4 (rules_in e) (drop 4 (drop 4 (drop 4 (drop 4 (drop 4 t))))) in
      let rule = replicate (rules_in e) (get_or rules 0 1) in
      ap (λ (m : ℕ). headed m (size_in e r) rule) (sym f.mark) ∙ ap (λ (n : ℕ). headed (word_at 4 t 0) n rule) (size-read ∙ sym f.size)
      ∙ ap (headed (word_at 4 t 0) (word_at 4 t 4)) (rule_kept (rules_in e) _ (rules_most e))

  -- what is read was written so
  pub bytes_read : bytes_of e r ≡ take (size_at e t) t
  unfolding bytes_of
  bytes_read = rw (runs_read, rows-read) (runs_bytes-runs_of Rs t bytes (found e t laid).room)

  read-row : (i : ℕ) → i < 18 → RowSuits (get_or Rs i no_run) (row rows i)
  unfolding runs_for
  read-row i h = suits_at Rs rows (runs_of_suits Rs t bytes (found e t laid).room) i h

  rule-read : rules_in e ≡ 0 → r.rule ≡ 1
  unfolding record_at of_rows runs_for runs_of row_of
  rule-read h = rw h

  pub laid_read : Laid e r
  unfolding record_at of_rows runs_for
  laid_read = record {
    shape = rw (kind_of e t, dim1_of e t, dim2_of e t, flag_of e t) (found e t laid).shape;
    ruled = rule-read;
    exps = rw (kind_of e t, dim1_of e t) (read-row 6 (omega arith)).count;
    settings = rw (flag_of e t) (read-row 9 (omega arith)).count;
    dz = rw (dim1_of e t, dim2_of e t) (read-row 10 (omega arith)).count;
    ds = rw (dim1_of e t, dim2_of e t) (read-row 11 (omega arith)).count;
    z = rw (dim1_of e t, dim2_of e t) (read-row 12 (omega arith)).count;
    s = rw (dim1_of e t, dim2_of e t) (read-row 13 (omega arith)).count;
    dualstep = rw (dualstep_of e t) (found e t laid).dualstep;
    primalstep = rw (primalstep_of e t) (found e t laid).primalstep;
  }

  pub sized-read : Sized r
  unfolding record_at of_rows runs_for
  sized-read = record {
    rule = first_below (rules_in e) (row rows 5) (read-row 5 (omega arith));
    exps = (read-row 6 (omega arith)).below;
    start = only_below 8 (row rows 7) (read-row 7 (omega arith));
    settings = (read-row 9 (omega arith)).below;
    dz = (read-row 10 (omega arith)).below;
    ds = (read-row 11 (omega arith)).below;
    z = (read-row 12 (omega arith)).below;
    s = (read-row 13 (omega arith)).below;
    dualcount = only_below 4 (row rows 15) (read-row 15 (omega arith));
    primalcount = only_below 4 (row rows 17) (read-row 17 (omega arith));
  }
