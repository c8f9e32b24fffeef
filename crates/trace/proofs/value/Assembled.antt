-- The parts that were read by the numbers of the shape are the record's. Assumes nothing.
use mathlib.Core.Path.{◌≡◌, sym, ap, ◌∙◌}
use mathlib.Core.Bool.{true}
use mathlib.Core.List.{List}
use Prim.Native.Nat.{ℕ, ◌+◌, ◌*◌, ◌-◌, ◌≤◌}
use native.Mathlib.Omega.{arith}
use lib.Ieee.{Float, binary64, of_bits}
use lib.ListN.{drop}
use borrow.Author.Tests.{eq-eqb, ne_eqb}
use Rattle.cone.specs.declared.Cone.{Cone}
use Rattle.cone.specs.declared.Settings.{Settings}
use Rattle.cone.specs.declared.Steps.{Steps}
use Rattle.octets.specs.words.Words.{word_at}
use Rattle.trace_layout.specs.declared.pieces.Shape.{Shape}
use Rattle.trace_layout.specs.Records.{rules_in, exponents, settings_in, flag_place, kind_at, dim1_at, dim2_at, rule_at, flag_at, size_at}
use Rattle.trace_layout.specs.Records.{size_in}
use Rattle.trace_layout.specs.Records.{laid_at, record_at}
use Rattle.trace_layout.specs.pieces.Shapes.{shape_at}
use Rattle.trace.specs.value.Defaults.{default_of}
use Rattle.trace.specs.value.Recorded.{row_in, cone_of, settings_of, steps_of, recorded_of}
use Rattle.trace_layout.proofs.Fields.{kind_of, dim1_of, dim2_of, rule-of, exps_of, start_of, flag_of, step_of, smallest_of, dz_of, ds_of}
use Rattle.trace_layout.proofs.Fields.{z_of, s_of, dualstep_of, dualcount_of, primalstep_of, primalcount_of}
use Rattle.trace_layout.proofs.Records.{found, Bounds, bounds, exponents-most, rules_most, size-least}

module _ (e : ℕ) (t : List ℕ) where
  -- the bounds of a record that was found
  module _ (laid : laid_at e t ≡ true) where
    shape_bounds : Bounds (kind_at t) (dim1_at t) (dim2_at t) (flag_at e t)
    shape_bounds = bounds (kind_at t) (dim1_at t) (dim2_at t) (flag_at e t) (found e t laid).shape

    exponents_fit : exponents (kind_at t) (dim1_at t) ≤ 32
    exponents_fit = exponents-most (kind_at t) (dim1_at t) 32 (omega arith) shape_bounds.dim1

    flag_fits : flag_place e (kind_at t) (dim1_at t) ≤ 288
    unfolding flag_place
    flag_fits = omega (arith, exponents_fit, rules_most e)

  flag_behind : 28 ≤ flag_place e (kind_at t) (dim1_at t)
  unfolding flag_place
  flag_behind = omega arith

module _ (e : ℕ) (t : List ℕ) (shape : Shape) (is : shape ≡ shape_at e t) where
  pub kind_is : shape.kind ≡ kind_at t
  unfolding shape_at
  kind_is = ap (λ (x : Shape). x.kind) is

  pub dim1_is : shape.dim1 ≡ dim1_at t
  unfolding shape_at
  dim1_is = ap (λ (x : Shape). x.dim1) is

  pub dim2_is : shape.dim2 ≡ dim2_at t
  unfolding shape_at
  dim2_is = ap (λ (x : Shape). x.dim2) is

  pub flag_is : shape.flag ≡ flag_at e t
  unfolding shape_at
  flag_is = ap (λ (x : Shape). x.flag) is

  pub size_is : shape.size ≡ size_at e t
  unfolding shape_at
  size_is = ap (λ (x : Shape). x.size) is

  -- ---- bounds, so that no place wraps

  module _ (laid : laid_at e t ≡ true) where
    pub few_exponents : exponents shape.kind shape.dim1 ≤ 32
    few_exponents = rw (kind_is, dim1_is) (exponents_fit e t laid)

    pub low_flag : flag_place e shape.kind shape.dim1 ≤ 288
    low_flag = rw (kind_is, dim1_is) (flag_fits e t laid)

    pub few_numbers : shape.dim1 + shape.dim2 ≤ 64
    few_numbers = rw (dim1_is, dim2_is) (omega (arith, (shape_bounds e t laid).dim1, (shape_bounds e t laid).dim2))

  pub high_flag : 28 ≤ flag_place e shape.kind shape.dim1
  high_flag = rw (kind_is, dim1_is) (flag_behind e t)

  pub long : 56 ≤ shape.size
  long = omega (arith, size_is, size-least e (kind_at t) (dim1_at t) (dim2_at t) (flag_at e t))

  -- ---- the parts

  pub cone-read : (rule : ℕ) (exps : List Float) → rule ≡ rule_at e t
      → exps ≡ row_in 32 (exponents shape.kind shape.dim1) (drop (20 + 4 * rules_in e) t)
      → record { kind = shape.kind; dim1 = shape.dim1; dim2 = shape.dim2; rule = rule; exps = exps } ≡ cone_of (record_at e t)
  unfolding cone_of row_in
  cone-read rule exps g h = rw (g, h, kind_is, dim1_is, dim2_is, kind_of e t, dim1_of e t, dim2_of e t, rule-of e t, exps_of e t)

  pub flag_own : shape.flag ≡ 0 → settings_in (flag_at e t) ≡ 2
  unfolding settings_in
  flag_own h = rw (eq-eqb (flag_at e t) 0 (sym flag_is ∙ h))

  pub settings_own : (start step smallest : Float) → shape.flag ≡ 0
      → start ≡ of_bits binary64 (word_at 8 t (flag_place e shape.kind shape.dim1 - 8))
      → step ≡ of_bits binary64 (word_at 8 t (flag_place e shape.kind shape.dim1 + 4))
      → smallest ≡ of_bits binary64 (word_at 8 t (flag_place e shape.kind shape.dim1 + 12))
      → record { start = start; step = step; smallest = smallest } ≡ settings_of e (record_at e t)
  unfolding settings_of
  settings_own start step smallest zero_flag a b c =
      let own = flag_own zero_flag in
      rw (
        a,
        b,
        c,
        kind_is,
        dim1_is,
        start_of e t,
        flag_of e t,
        step_of e t own,
        smallest_of e t own,
        eq-eqb (flag_at e t) 0 (sym flag_is ∙ zero_flag),
      )

  pub settings_default : (start : Float) → (shape.flag ≡ 0 → ⊥) → start
      ≡ of_bits binary64 (word_at 8 t (flag_place e shape.kind shape.dim1 - 8))
      → default_of e start ≡ settings_of e (record_at e t)
  unfolding settings_of
  settings_default start other a = rw (a, kind_is, dim1_is, start_of e t, flag_of e t, ne_eqb (flag_at e t) 0 (λ h. other (flag_is ∙ h)))

  pub steps_read : (dualstep primalstep : Float) (dualcount primalcount : ℕ)
      → dualstep ≡ of_bits binary64 (word_at 8 t (shape.size - 24))
      → dualcount ≡ word_at 4 t (shape.size - 16)
      → primalstep ≡ of_bits binary64 (word_at 8 t (shape.size - 12))
      → primalcount ≡ word_at 4 t (shape.size - 4)
      → record {
        code =
            0;
        dualcount = dualcount;
        primalcount = primalcount;
        dualstep = dualstep;
        primalstep = primalstep;
      } ≡ steps_of (record_at e t)
  unfolding steps_of
  steps_read dualstep primalstep dualcount primalcount a b c d =
      rw (a, b, c, d, size_is, dualstep_of e t, dualcount_of e t, primalstep_of e t, primalcount_of e t)

  -- the place of the vectors, and how many numbers each has, by the shape
  abbrev pub first_vector : ℕ
  first_vector = flag_place e shape.kind shape.dim1 + 4 + 8 * settings_in shape.flag

  abbrev pub numbers : ℕ
  numbers = shape.dim1 + shape.dim2

  next-read : (at : ℕ) → at + shape.size ≡ at + size_in e (record_at e t)
  next-read at = rw (size_is, kind_of e t, dim1_of e t, dim2_of e t, flag_of e t)

  pub all_read : (at : ℕ) (cone : Cone) (settings : Settings) (steps : Steps) (dz ds z s : List Float) (n place : ℕ)
      → cone ≡ cone_of (record_at e t) → settings ≡ settings_of e (record_at e t) → steps ≡ steps_of (record_at e t)
      → n ≡ numbers → place ≡ first_vector
      → dz ≡ row_in 64 n (drop place t)
      → ds ≡ row_in 64 n (drop (place + 8 * n) t)
      → z ≡ row_in 64 n (drop (place + 16 * n) t)
      → s ≡ row_in 64 n (drop (place + 24 * n) t)
      → record {
        code =
            0;
        flag = shape.flag;
        at = at;
        next = at + shape.size;
        cone = cone;
        settings = settings;
        dz = dz;
        ds = ds;
        z = z;
        s = s;
        steps = steps;
      }
      ≡ recorded_of e at (record_at e t)
  unfolding recorded_of row_in
  all_read at cone settings steps dz ds z s n place a b c k p f g h i =
      rw (
        a,
        b,
        c,
        f,
        g,
        h,
        i,
        k,
        p,
        next-read at,
        kind_is,
        dim1_is,
        dim2_is,
        flag_is,
        flag_of e t,
        dz_of e t,
        ds_of e t,
        z_of e t,
        s_of e t,
      )
