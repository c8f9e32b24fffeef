-- A layout of runs: reading what was written gives it back, and what is read was written so. Assumes nothing.
use mathlib.Core.Path.{◌≡◌, refl, sym, ap, ◌∙◌}
use Prim.Native.Nat.{ℕ, zero, suc, ◌+◌, ◌*◌, ◌^◌, ◌≤◌, ◌<◌}
use mathlib.Core.List.{List, [], ◌∷◌, ◌++◌, append_assoc}
use native.Mathlib.Omega.{arith}
use lib.ListN.{length, take, drop, get_or, length-append, length-drop}
use lib.Seq.{drop_at, take-add, drop-drop}
use Rattle.octets.specs.words.Words.{spelled, word_at, row_bytes, row_of, AllBelow}
use Rattle.octets.specs.words.Runs.{Run, runs_size, runs_bytes, runs_of, Suits}
use Rattle.octets.proofs.words.Words.{length-row_bytes, length-row_of, row_of-row_bytes, row_bytes-row_of, row_of-below, below-drop}
use Rattle.octets.proofs.words.Words.{below-append}
use Rattle.octets.proofs.words.Words.{row_bytes-below}

pub length-runs_bytes : (runs : List Run) (rows : List (List ℕ)) → Suits runs rows → length (runs_bytes runs rows) ≡ runs_size runs
unfolding runs_bytes runs_size Suits
length-runs_bytes [] [] h = refl
length-runs_bytes [] (row ∷ rows) h = absurd h
length-runs_bytes (run ∷ runs) [] h = absurd h
length-runs_bytes (run ∷ runs) (row ∷ rows) h = simp (length-append, length-row_bytes, h.0, length-runs_bytes runs rows h.2)

pub runs_bytes-below : (runs : List Run) (rows : List (List ℕ)) → AllBelow 256 (runs_bytes runs rows)
unfolding runs_bytes AllBelow
runs_bytes-below [] rows = tt
runs_bytes-below (run ∷ runs) [] = tt
runs_bytes-below (run ∷ runs) (row ∷ rows) =
    below-append 256 (row_bytes run.width row) (runs_bytes runs rows) (row_bytes-below run.width row) (runs_bytes-below runs rows)

-- reading what was written gives it back, whatever lies behind it
pub runs_of-runs_bytes : (runs : List Run) (rows : List (List ℕ)) (rest : List ℕ) → Suits runs rows
    → runs_of runs (runs_bytes runs rows ++ rest) ≡ rows
unfolding runs_bytes runs_of Suits
runs_of-runs_bytes [] [] rest h = refl
runs_of-runs_bytes [] (row ∷ rows) rest h = absurd h
runs_of-runs_bytes (run ∷ runs) [] rest h = absurd h
runs_of-runs_bytes (run ∷ runs) (row ∷ rows) rest h =
    let behind = runs_bytes runs rows ++ rest in
    let size : length (row_bytes run.width row) ≡ run.width * run.count = simp (length-row_bytes, h.0) in
    let first : row_of run.width run.count (row_bytes run.width row ++ behind) ≡ row =
    rw (← h.0) (row_of-row_bytes run.width row behind h.1) in
    rw (
      append_assoc (row_bytes run.width row),
      first,
      drop_at (row_bytes run.width row) behind _ size,
      runs_of-runs_bytes runs rows rest h.2,
    )

-- what is read was written so
pub runs_bytes-runs_of : (runs : List Run) (bs : List ℕ) → AllBelow 256 bs → runs_size runs ≤ length bs → runs_bytes runs (runs_of runs bs)
    ≡ take (runs_size runs) bs
unfolding runs_bytes runs_of runs_size
runs_bytes-runs_of [] bs h g = refl
runs_bytes-runs_of (run ∷ runs) bs h g =
    let n = run.width * run.count in
    rw (
      row_bytes-row_of run.width run.count bs h (omega arith),
      runs_bytes-runs_of runs (drop n bs) (below-drop 256 n bs h) (simp length-drop (omega arith)),
      take-add n (runs_size runs) bs,
    )

pub runs_of_suits : (runs : List Run) (bs : List ℕ) → AllBelow 256 bs → runs_size runs ≤ length bs → Suits runs (runs_of runs bs)
unfolding runs_of runs_size Suits
runs_of_suits [] bs h g = tt
runs_of_suits (run ∷ runs) bs h g =
    let n = run.width * run.count in (
      length-row_of run.width run.count bs,
      row_of-below run.width run.count bs h (omega arith),
      runs_of_suits runs (drop n bs) (below-drop 256 n bs h) (simp length-drop (omega arith)),
    )

-- ---- a number by its place

-- a place behind the first a bytes
pub word_behind : (w : ℕ) (bs : List ℕ) (a b : ℕ) → word_at w bs (a + b) ≡ word_at w (drop a bs) b
unfolding word_at
word_behind w bs a b = ap (λ (l : List ℕ). spelled (take w l)) (sym (drop-drop b a bs))

pub row_number : (w n : ℕ) (bs : List ℕ) (j : ℕ) → j < n → word_at w bs (w * j) ≡ get_or (row_of w n bs) j 0
unfolding row_of word_at
row_number w zero bs j h = absurd (omega arith)
row_number w (suc n) bs zero h = let z : w * 0 ≡ 0 = omega arith in rw z
row_number w (suc n) bs (suc j) h =
    let z : w * suc j ≡ w + w * j = omega arith in rw z (word_behind w bs w (w * j) ∙ row_number w n (drop w bs) j (omega arith))

-- no run
abbrev pub no_run : Run
no_run = record { width = 0; count = 0 }

-- number j of run i stands behind the runs before it, and j numbers of its own
pub number_at : (runs : List Run) (bs : List ℕ) (i j : ℕ) → j < (get_or runs i no_run).count
    → word_at (get_or runs i no_run).width bs (runs_size (take i runs) + (get_or runs i no_run).width * j)
    ≡ get_or (get_or (runs_of runs bs) i []) j 0
unfolding runs_of runs_size
number_at [] bs i j h = absurd (omega arith)
number_at (run ∷ runs) bs zero j h =
    let z : 0 + run.width * j ≡ run.width * j = omega arith in rw z (row_number run.width run.count bs j h)
number_at (run ∷ runs) bs (suc i) j h =
    let w = (get_or runs i no_run).width in
    let n = run.width * run.count in
    let z : n + runs_size (take i runs) + w * j ≡ n + (runs_size (take i runs) + w * j) = omega arith in
    rw z (word_behind w bs n (runs_size (take i runs) + w * j) ∙ number_at runs (drop (run.width * run.count) bs) i j h)

-- what the layout says of row i
pub record RowSuits (one : Run) (row : List ℕ) : Type 0 where
  pub count : length row ≡ one.count
  pub below : AllBelow (256 ^ one.width) row

pub suits_at : (runs : List Run) (rows : List (List ℕ)) → Suits runs rows → (i : ℕ) → i < length runs
    → RowSuits (get_or runs i no_run) (get_or rows i [])
unfolding Suits
suits_at [] rows h i g = absurd (omega arith)
suits_at (run ∷ runs) [] h i g = absurd h
suits_at (run ∷ runs) (row ∷ rows) h zero g = record { count = h.0; below = h.1 }
suits_at (run ∷ runs) (row ∷ rows) h (suc i) g = suits_at runs rows h.2 i (omega arith)

-- of a run of one number, that number
pub only_below : (w : ℕ) (row : List ℕ) → RowSuits (record { width = w; count = 1 }) row → get_or row 0 0 < 256 ^ w
unfolding AllBelow
only_below w [] h = absurd (omega (arith, h.count))
only_below w (x ∷ xs) h = h.below.0

-- row i stands behind the runs before it
pub row_at : (runs : List Run) (bs : List ℕ) (i : ℕ) → i < length runs → get_or (runs_of runs bs) i []
    ≡ row_of (get_or runs i no_run).width (get_or runs i no_run).count (drop (runs_size (take i runs)) bs)
unfolding runs_of runs_size
row_at [] bs i h = absurd (omega arith)
row_at (run ∷ runs) bs zero h = refl
row_at (run ∷ runs) bs (suc i) h =
    let n = run.width * run.count in
    row_at runs (drop n bs) i (omega arith) ∙ ap (row_of (get_or runs i no_run).width (get_or runs i no_run).count)
    (drop-drop (runs_size (take i runs)) n bs)
