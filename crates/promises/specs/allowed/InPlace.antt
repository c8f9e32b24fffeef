-- A record in place: the nineteen parts that a call of the library is lent in its stead, in the header's order, numbers by value and arrays
-- by their address. Behind them stand the call's other arguments. Definitions only.
use Rattle.std.specs.Prelude.{ℕ, List, Float}
use Rattle.std.specs.Borrow.{Bor}
use Rattle.cone.specs.declared.Scaling.{Scaling}
use Rattle.call_record.specs.Parts.{triple_of, wide_of, record_of}

-- where an array of doubles lies
abbrev Array : Type 0
Array = Bor (List Float)

abbrev pub Parts : Type 0 → Type 0
Parts Others =
    ℕ × (ℕ × (ℕ × (ℕ × (Array × (ℕ × (ℕ × (Array × (Array × (Array × (Array
    × (Array × (Float × (Array × (Array × (Array × (Array × (Array × (Float × Others))))))))))))))))))

-- the record that they are
abbrev pub lent : {Others : Type 0} → Parts Others → Scaling
lent =
    λ (kind, (dim1, (dim2, (rule, (exps, (scaled, (serial, (z3, (grad3, (hdual, (hs, (z, (μ, (grad, (p, (q, (r, (d1, (d2, rest))))))))))))))))))).
    record_of kind dim1 dim2 rule exps.now scaled serial (triple_of z3.now grad3.now hdual.now hs.now)
    (wide_of z.now μ grad.now p.now q.now r.now d1.now d2)

-- what stands behind nineteen places: the other arguments, or what is lent at exit
abbrev pub others : {A B C D E F G H I J K L M N O P Q R S Others : Type 0}
    → A × (B × (C × (D × (E × (F × (G × (H × (I × (J × (K × (L × (M × (N × (O × (P × (Q × (R × (S × Others)))))))))))))))))) → Others
others a = a.1.1.1.1.1.1.1.1.1.1.1.1.1.1.1.1.1.1.1
