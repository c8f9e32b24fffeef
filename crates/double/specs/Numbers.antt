-- The numbers of the Rust text and of document 01, each by its bits under a name. Definitions only, and the statement that the names are
-- right.
use Rattle.std.specs.Prelude.{ℕ, ◌^◌, ◌≡◌, false, Float}
use Rattle.std.specs.Float.{binary64}
use Rattle.std.specs.Float.Ieee.{of_bits, round}

-- the double nearest to the decimal fraction m / 10^k: what a literal of the Rust text means
unfoldable pub dec : ℕ → ℕ → Float
unfolding round
dec m k = round binary64 false m (10 ^ k)

-- the double 2^-k
unfoldable pub pow2 : ℕ → Float
unfolding round
pow2 k = round binary64 false 1 (2 ^ k)

abbrev pub #0 : Float
#0 = of_bits binary64 0x0000_0000_0000_0000

abbrev pub #½ : Float
#½ = of_bits binary64 0x3fe0_0000_0000_0000

abbrev pub #1 : Float
#1 = of_bits binary64 0x3ff0_0000_0000_0000

abbrev pub #1½ : Float
#1½ = of_bits binary64 0x3ff8_0000_0000_0000

abbrev pub #2 : Float
#2 = of_bits binary64 0x4000_0000_0000_0000

abbrev pub #3 : Float
#3 = of_bits binary64 0x4008_0000_0000_0000

abbrev pub #4 : Float
#4 = of_bits binary64 0x4010_0000_0000_0000

abbrev pub #8 : Float
#8 = of_bits binary64 0x4020_0000_0000_0000

abbrev pub #13 : Float
#13 = of_bits binary64 0x402a_0000_0000_0000

abbrev pub #16 : Float
#16 = of_bits binary64 0x4030_0000_0000_0000

abbrev pub #72 : Float
#72 = of_bits binary64 0x4052_0000_0000_0000

abbrev pub #192 : Float
#192 = of_bits binary64 0x4068_0000_0000_0000

abbrev pub #3072 : Float
#3072 = of_bits binary64 0x40a8_0000_0000_0000

abbrev pub #61440 : Float
#61440 = of_bits binary64 0x40ee_0000_0000_0000

abbrev pub #708 : Float
#708 = of_bits binary64 0x4086_2000_0000_0000

abbrev pub #709 : Float
#709 = of_bits binary64 0x4086_2800_0000_0000

-- 01: "π is the nearest double". The Rust's T::PI()
abbrev pub #π : Float
#π = of_bits binary64 0x4009_21fb_5444_2d18

-- 01: "ε is 2^-52". The Rust's T::epsilon()
abbrev pub #ε : Float
#ε = of_bits binary64 0x3cb0_0000_0000_0000

-- 01: "√ε is 2^-26". The Rust's T::sqrt(T::epsilon())
abbrev pub #√ε : Float
#√ε = of_bits binary64 0x3e50_0000_0000_0000

-- 02, Order 9: "Release 1 cones keep 2^-40"; "From planner release 2" it is 2^-50. Each by its rule's number
abbrev pub #tolerance1 : Float
#tolerance1 = of_bits binary64 0x3d70_0000_0000_0000

abbrev pub #tolerance2 : Float
#tolerance2 = of_bits binary64 0x3cd0_0000_0000_0000

-- 01, number 4: "step not above 0 or more than 0.99"
abbrev pub #largest_step : Float
#largest_step = of_bits binary64 0x3fef_ae14_7ae1_47ae

-- 01, number 4: "smallest step not a positive normal number": 2^-1022 is the smallest normal number
abbrev pub #smallest_normal : Float
#smallest_normal = of_bits binary64 0x0010_0000_0000_0000

-- 01: "House defaults: step 0.5, smallest step 0.0001"
abbrev pub #house_step : Float
#house_step = of_bits binary64 0x3fe0_0000_0000_0000

abbrev pub #house_smallest : Float
#house_smallest = of_bits binary64 0x3f1a_36e2_eb1c_432d

-- 000 unit_initialization
abbrev pub #start1 : Float
#start1 = of_bits binary64 0x3ff0_d277_f8cb_3549

abbrev pub #start2 : Float
#start2 = of_bits binary64 0x3fe1_ce1b_8bd9_9fbc

abbrev pub #start3 : Float
#start3 = of_bits binary64 0x3ff4_24bb_823c_c033

-- Each name is the number that it stands for.
pub record NamesRight : Type 0 where
  pub zero_right : #0 ≡ dec 0 0
  pub half_right : #½ ≡ dec 5 1
  pub n1_right : #1 ≡ dec 1 0
  pub three_halves_right : #1½ ≡ dec 15 1
  pub n2_right : #2 ≡ dec 2 0
  pub n3_right : #3 ≡ dec 3 0
  pub n4_right : #4 ≡ dec 4 0
  pub n8_right : #8 ≡ dec 8 0
  pub n13_right : #13 ≡ dec 13 0
  pub n16_right : #16 ≡ dec 16 0
  pub n72_right : #72 ≡ dec 72 0
  pub n192_right : #192 ≡ dec 192 0
  pub n3072_right : #3072 ≡ dec 3072 0
  pub n61440_right : #61440 ≡ dec 61440 0
  pub n708_right : #708 ≡ dec 708 0
  pub n709_right : #709 ≡ dec 709 0
  -- π to twenty digits behind the point
  pub pi_right : #π ≡ dec 314159265358979323846 20
  pub epsilon_right : #ε ≡ pow2 52
  pub root_epsilon_right : #√ε ≡ pow2 26
  pub first_tolerance_right : #tolerance1 ≡ pow2 40
  pub second_tolerance_right : #tolerance2 ≡ pow2 50
  pub largest_step_right : #largest_step ≡ dec 99 2
  pub smallest_normal_right : #smallest_normal ≡ pow2 1022
  pub house_step_right : #house_step ≡ dec 5 1
  pub house_smallest_right : #house_smallest ≡ dec 1 4
  pub first_start_right : #start1 ≡ dec 1051383945322714 15
  pub second_start_right : #start2 ≡ dec 556409619469370 15
  pub third_start_right : #start3 ≡ dec 1258967884768947 15
