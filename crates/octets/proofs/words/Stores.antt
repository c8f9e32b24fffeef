-- Rows of bytes stored one behind the other, one in front of the other, or at the front. Assumes nothing.
use mathlib.Core.Path.{◌≡◌, refl, sym, ap, ◌∙◌}
use Prim.Native.Nat.{ℕ, suc, ◌+◌, ◌*◌, ◌<◌, ◌≤◌}
use mathlib.Core.List.{List, [], ◌∷◌, ◌++◌}
use native.Mathlib.Omega.{arith}
use native.Mathlib.Numerals.{add-one}
use native.Mathlib.Nat.{mul-le-mul_left}
use lib.ListN.{length, take, drop, get_or, set, length-take, length-drop, drop_of_length-le}
use lib.Seq.{sets, sets-eq, set_comm, get_or-set_other, drop-cons, get_or-take, get_or-drop, take_at, take_all}
use borrow.Rule.Slice.PartMut.{put_mid}
use Rattle.std.proofs.lemmas.Slice.{put_mid-paste}
use Rattle.octets.specs.words.Words.{le, row_bytes}
use Rattle.octets.proofs.words.Words.{length-le}

-- a row behind the row that was stored
pub sets_after : (a b l : List ℕ) (i : ℕ) → sets (sets l i a) (i + length a) b ≡ sets l i (a ++ b)
sets_after [] b l i = let z : i + 0 ≡ i = omega arith in rw z
sets_after (x ∷ a) b l i = let z : i + suc (length a) ≡ suc i + length a = omega arith in rw z (sets_after a b (set l i x) (suc i))

pub wrote_after : (l now₁ now₂ : List ℕ) (i p : ℕ) (a b : List ℕ) → now₁ ≡ sets l i a → p ≡ i + length a → now₂ ≡ sets now₁ p b → now₂
    ≡ sets l i (a ++ b)
wrote_after l now₁ now₂ i p a b first place second = second ∙ rw (first, place) (sets_after a b l i)

-- a store in front of a row
pub set_before : (b l : List ℕ) (i j x : ℕ) → i < j → set (sets l j b) i x ≡ sets (set l i x) j b
set_before [] l i j x h = refl
set_before (y ∷ b) l i j x h =
    set_before b (set l j y) i (suc j) x (omega arith) ∙ ap (λ (k : List ℕ). sets k (suc j) b) (set_comm l j i y x (λ e. omega arith))

-- a row in front of the row that was stored
pub sets_before : (a b l : List ℕ) (i : ℕ) → sets (sets l (i + length a) b) i a ≡ sets l i (a ++ b)
sets_before [] b l i = let z : i + 0 ≡ i = omega arith in rw z
sets_before (x ∷ a) b l i =
    let z : i + suc (length a) ≡ suc i + length a = omega arith in
    rw z (ap (λ (k : List ℕ). sets k (suc i) a) (set_before b l i (suc i + length a) x (omega arith)) ∙ sets_before a b (set l i x) (suc i))

pub get_or_before : (b l : List ℕ) (i j : ℕ) → i < j → get_or (sets l j b) i 0 ≡ get_or l i 0
get_or_before [] l i j h = refl
get_or_before (y ∷ b) l i j h = get_or_before b (set l j y) i (suc j) (omega arith) ∙ get_or-set_other l j i y 0 (λ e. omega arith)

-- ---- copying a row: byte i in front of those that are left

pub copied : (out bytes : List ℕ) (place i : ℕ) → i < length bytes
    → sets (set out (place + i) (get_or bytes i 0)) (place + (i + 1)) (drop (i + 1) bytes) ≡ sets out (place + i) (drop i bytes)
copied out bytes place i h =
    let next : place + (i + 1) ≡ place + i + 1 = omega arith in rw (next, drop-cons bytes i 0 h, add-one i, add-one (place + i))

-- ---- moving a row up, its last byte first: byte i joins the bytes above it

pub move_turn : (l : List ℕ) (place from n i : ℕ) → i < n → from + n ≤ length l
    → set (sets l (place + suc i) (drop (suc i) (take n (drop from l)))) (place + i) (get_or l (from + i) 0)
    ≡ sets l (place + i) (drop i (take n (drop from l)))
move_turn l place from n i h room =
    let row = take n (drop from l) in
    let z : place + suc i ≡ suc (place + i) = omega arith in
    let here : get_or row i 0 ≡ get_or l (from + i) 0 = get_or-take n (drop from l) i 0 h ∙ get_or-drop from l i 0 in
    let more : drop i row ≡ get_or row i 0 ∷ drop (suc i) row = drop-cons row i 0 (simp (length-take, length-drop) (omega arith)) in
    rw (z, more, here) (set_before (drop (suc i) row) l (place + i) (suc (place + i)) (get_or l (from + i) 0) (omega arith))

-- ---- a row of numbers: number i in front of those that are left

pub row-turn : (w : ℕ) (bs ws : List ℕ) (place i : ℕ) → i < length ws
    → sets (sets bs (place + w * i) (le w (get_or ws i 0))) (place + w * (i + 1)) (row_bytes w (drop (i + 1) ws))
    ≡ sets bs (place + w * i) (row_bytes w (drop i ws))
unfolding row_bytes
row-turn w bs ws place i h =
    let next : place + w * (i + 1) ≡ place + w * i + length (le w (get_or ws i 0)) = omega (arith, length-le w (get_or ws i 0)) in
    rw (next, drop-cons ws i 0 h, add-one i) (sets_after (le w (get_or ws i 0)) (row_bytes w (drop (suc i) ws)) bs (place + w * i))

pub row-begun : (w : ℕ) (bs ws : List ℕ) (place : ℕ) → sets bs (place + w * 0) (row_bytes w ws) ≡ sets bs place (row_bytes w ws)
row-begun w bs ws place = let z : place + w * 0 ≡ place = omega arith in rw z

pub row_done : (w : ℕ) (bs ws : List ℕ) (place i : ℕ) → length ws ≤ i → sets bs (place + w * i) (row_bytes w (drop i ws)) ≡ bs
unfolding row_bytes
row_done w bs ws place i h = rw (drop_of_length-le ws {i = i} h)

more : (i n : ℕ) → i < n → i + 1 ≤ n
more i n h = omega arith

-- number i lies in the row
pub row_room : (w i n : ℕ) → i < n → w * i + w ≤ w * n
row_room w i n h = omega (arith, mul-le-mul_left w (more i n h))

-- ---- a row at the front

pub sets_first : (vs l : List ℕ) → length vs ≤ length l → sets l 0 vs ≡ vs ++ drop (length vs) l
sets_first vs l h =
    let fits : 0 + length vs ≤ length l = omega arith in
    let z : 0 + length vs ≡ length vs = omega arith in
    rw z at (sets-eq vs l 0 fits)

-- it is the first n places, if it has n
pub cut-is : (row found exit : List ℕ) (n : ℕ) → exit ≡ sets row 0 found → n ≡ length found → length found ≤ length row
    → take n exit ≡ found
cut-is row found exit n wrote count h = rw (wrote, sets_first found row h) (take_at found (drop (length found) row) n (sym count))

-- ---- a part that is written at once

pub part_written : (place n : ℕ) (out part bytes : List ℕ) → part ≡ bytes → n ≡ length bytes → place + length bytes ≤ length out
    → put_mid place n out part ≡ sets out place bytes
part_written place n out part bytes e count room =
    let all : take (length bytes) bytes ≡ bytes = take_all (length bytes) bytes (omega arith) in
    let long : length bytes ≡ n = sym count in
    put_mid-paste place n out part bytes (length bytes) e long refl ∙ (rw all (sym (sets-eq bytes out place room)))
