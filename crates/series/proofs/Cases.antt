-- Small cases that hold the definitions to their source: decimal digits of logarithms. All are computed. Assumes nothing.
use mathlib.Core.Path.{◌≡◌, refl}
use Prim.Native.Nat.{◌^◌}
use lib.Ieee.{size, span, climb}
use Rattle.series.specs.Series.{sum, odd_product, term, s_num, s_den, rise, fall}
use Rattle.series.proofs.Addition.{floor_s}

-- ln 2 = 0.69314718055994530941.., which S(1/3) is to 39 digits
third_is_ln_2 : floor_s (10 ^ 20) 1 3 ≡ 69314718055994530941
unfolding floor_s s_num s_den sum term odd_product
third_is_ln_2 = refl

-- ln 1.5 = 0.40546510810816438197.., m = 3/2 giving (m-1)/(m+1) = 1/5
fifth-is-ln-1½ : floor_s (10 ^ 20) 1 5 ≡ 40546510810816438197
unfolding floor_s s_num s_den sum term odd_product
fifth-is-ln-1½ = refl

-- 10 = 10/8 · 2^3, 3/10 = 12/10 · 2^-2, ½ = 1 · 2^-1
ten_rises : rise 10 1 ≡ 3
unfolding rise size span climb
ten_rises = refl

ten_falls_not : fall 10 1 ≡ 0
unfolding fall size span climb
ten_falls_not = refl

three_tenths_falls : fall 3 10 ≡ 2
unfolding fall size span climb
three_tenths_falls = refl

half_falls : fall 1 2 ≡ 1
unfolding fall size span climb
half_falls = refl
