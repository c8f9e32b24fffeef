-- The formulas of kind 3 on the arrays of a cone and of a record. Definitions only; each has the name of the Rust function, whose own
-- definition stands in genpowcone. 01: "32 exponent places, the first used first"; so are the record's places.
use Rattle.std.specs.Prelude.{ℕ, List, Float, take}
use Rattle.genpowcone.specs.PrimalGradient as genPrimal
use Rattle.genpowcone.specs.Barriers as genBarriers
use Rattle.genpowcone.specs.Rank3 as genRank3
use Rattle.genpowcone.specs.declared.WideGradient.{WideGradient}

-- 002 unit_initialization: z and s alike
unfoldable pub unit_initialization_of : List Float → ℕ → List Float
unit_initialization_of exps dim1 = genPrimal.unit_initialization_of (take dim1 exps)

-- 002 gradient_primal
unfoldable pub gradient_primal_of : List Float → ℕ → List Float → WideGradient
gradient_primal_of exps dim1 s = genPrimal.gradient_primal_of (take dim1 exps) s

-- 002 barrier_primal
unfoldable pub barrier_primal_of : List Float → ℕ → List Float → Float
barrier_primal_of exps dim1 s = genBarriers.barrier_primal_of (take dim1 exps) s

-- 002 compute_barrier; the step is the Rust's α
unfoldable pub compute_barrier_of : List Float → ℕ → List Float → List Float → List Float → List Float → Float → Float
compute_barrier_of exps dim1 z s dz ds step = genBarriers.compute_barrier_of (take dim1 exps) z s dz ds step

-- 002 get_Hs
unfoldable pub get_hs_of : Float → List Float → ℕ → Float → ℕ → List Float
get_hs_of μ d1 dim1 d2 dim2 = genRank3.get_hs_of μ (take dim1 d1) d2 dim2
