-- The table that the second square root starts from, and the rule of its entries. Definitions only.
use Rattle.std.specs.Prelude.{List, [], ◌∷◌, cond, ℕ, ◌+◌, ◌-◌, ◌*◌, ◌/◌, ◌^◌, ◌≤◌, ◌<◌, ltb, get_or}

-- 02, Order 11: "starts from a table estimate". Entry i is 2^12 over the root of the middle of the i-th of 128 intervals, to the nearest
-- whole number; 64 of them divide the numbers from 1 to 2, and 64 those from 2 to 4.
unfoldable pub estimates : List ℕ
estimates =
    4080 ∷ 4049 ∷ 4018 ∷ 3988 ∷ 3959 ∷ 3931 ∷ 3903 ∷ 3875 ∷ 3848 ∷ 3822 ∷ 3796 ∷ 3771 ∷ 3746 ∷ 3722 ∷ 3698 ∷ 3675 ∷
    3652 ∷ 3630 ∷ 3608 ∷ 3586 ∷ 3565 ∷ 3544 ∷ 3523 ∷ 3503 ∷ 3483 ∷ 3464 ∷ 3444 ∷ 3426 ∷ 3407 ∷ 3389 ∷ 3371 ∷ 3353 ∷
    3336 ∷ 3319 ∷ 3302 ∷ 3285 ∷ 3269 ∷ 3252 ∷ 3237 ∷ 3221 ∷ 3205 ∷ 3190 ∷ 3175 ∷ 3160 ∷ 3146 ∷ 3131 ∷ 3117 ∷ 3103 ∷
    3089 ∷ 3076 ∷ 3062 ∷ 3049 ∷ 3036 ∷ 3023 ∷ 3010 ∷ 2998 ∷ 2985 ∷ 2973 ∷ 2961 ∷ 2949 ∷ 2937 ∷ 2925 ∷ 2913 ∷ 2902 ∷
    2885 ∷ 2863 ∷ 2841 ∷ 2820 ∷ 2800 ∷ 2779 ∷ 2760 ∷ 2740 ∷ 2721 ∷ 2703 ∷ 2684 ∷ 2667 ∷ 2649 ∷ 2632 ∷ 2615 ∷ 2599 ∷
    2582 ∷ 2567 ∷ 2551 ∷ 2536 ∷ 2521 ∷ 2506 ∷ 2491 ∷ 2477 ∷ 2463 ∷ 2449 ∷ 2436 ∷ 2422 ∷ 2409 ∷ 2396 ∷ 2384 ∷ 2371 ∷
    2359 ∷ 2347 ∷ 2335 ∷ 2323 ∷ 2311 ∷ 2300 ∷ 2289 ∷ 2278 ∷ 2267 ∷ 2256 ∷ 2245 ∷ 2235 ∷ 2224 ∷ 2214 ∷ 2204 ∷ 2194 ∷
    2185 ∷ 2175 ∷ 2165 ∷ 2156 ∷ 2147 ∷ 2138 ∷ 2129 ∷ 2120 ∷ 2111 ∷ 2102 ∷ 2093 ∷ 2085 ∷ 2077 ∷ 2068 ∷ 2060 ∷ 2052 ∷ []

-- the interval of a number m, which stands for m / 2^52: by the bits after its first one, and by whether it is below 2 or not
unfoldable pub place_of : ℕ → ℕ
place_of m = cond (ltb m (2 ^ 53)) (m / 2 ^ 46 - 64) (m / 2 ^ 47)

unfoldable pub estimate_of : ℕ → ℕ
unfolding estimates place_of
estimate_of m = get_or estimates (place_of m) 0

-- m / 2^52 in units of 2^-24, rounded up
abbrev pub units : ℕ → ℕ
units m = m / 2 ^ 28 + 1

-- x e² is within a 128th of 1, with x in units of 2^-24 and e in units of 2^-12: so e is 1 over the root of x to seven bits
pub record Within128 (x e : ℕ) : Type 0 where
  pub from : 127 * 2 ^ 41 ≤ x * (e * e)
  pub to : x * (e * e) ≤ 129 * 2 ^ 41

-- The rule of the table: it holds for every number of an entry's interval, not only for its middle.
pub record EstimateRule : Type 0 where
  pub short : (m : ℕ) → m < 2 ^ 54 → estimate_of m < 2 ^ 12
  pub close : (m : ℕ) → 2 ^ 52 ≤ m → m < 2 ^ 54 → Within128 (units m) (estimate_of m)
