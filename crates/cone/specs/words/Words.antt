-- A cone as it lies in memory: 34 words of 64 bits, as include/spindle.h lays a `Cone` out on a little-endian machine. Definitions only.
use Rattle.std.specs.Prelude.{ℕ, ◌+◌, ◌*◌, ◌/◌, ◌%◌, ◌^◌, List, ◌∷◌, map, get_or, replicate, set, Float}
use Rattle.std.specs.Float.{binary64}
use Rattle.std.specs.Float.Ieee.{of_bits, to_bits}
use Rattle.arith.specs.Turns.{iter}
use Rattle.double.specs.Numbers.{#0}
use Rattle.cone.specs.declared.Cone.{Cone}

abbrev pub word : List ℕ → ℕ → ℕ
word w i = get_or w i 0

-- two numbers of 32 bits share a word, the first in its lower half
abbrev pub low_half : ℕ → ℕ
low_half x = x % 2 ^ 32

abbrev pub high_half : ℕ → ℕ
high_half x = x / 2 ^ 32

-- the exponent places follow from word 2 on, each the bits of a double
abbrev pub place_turn : List ℕ → ℕ → List Float → List Float
place_turn w i a = set a i (of_bits binary64 (word w (i + 2)))

-- the first n of them, and +0 behind
unfoldable pub places_of : List ℕ → ℕ → List Float
places_of w n = iter (place_turn w) (replicate 32 #0) n

-- kind and dim1, dim2 and rule, the 32 places
unfoldable pub cone_of_words : List ℕ → Cone
cone_of_words w = record {
  kind = low_half (word w 0);
  dim1 = high_half (word w 0);
  dim2 = low_half (word w 1);
  rule = high_half (word w 1);
  exps = places_of w 32;
}

-- the cones of a list
abbrev pub cones_of : List (List ℕ) → List Cone
cones_of ws = map cone_of_words ws

-- the words of a cone; proofs/words/Words: `coneOfWords` reads it back
unfoldable pub words_of : Cone → List ℕ
words_of c = (c.kind + 2 ^ 32 * c.dim1) ∷ (c.dim2 + 2 ^ 32 * c.rule) ∷ map (to_bits binary64) c.exps
