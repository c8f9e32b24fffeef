-- `entry` meets its contract: the rows of the program are the list of the specification, cut every 16 numbers. Assumes nothing.
use Rattle.std.proofs.Common.{◌≡◌, ℕ, zero, suc, ◌+◌, ◌*◌, ◌/◌, ◌%◌, ◌<◌, List, [], ◌∷◌, get_or, take, drop, ap, ◌∙◌, le_of_suc-le-suc, not-suc-le-zero, div-add-mod', zero-add, arith, get_or-drop, get_or-take}
use Rattle.logarithm.specs.table.Table.{table}
use Rattle.logarithm.proofs.table.entry.Goals as goal

-- the first n rows of a list
abbrev rows : ℕ → List ℕ → List (List ℕ)
rows zero l = []
rows (suc n) l = take 16 l ∷ rows n (drop 16 l)

-- what stands at place j of row k
in_rows : (n : ℕ) (l : List ℕ) (k j : ℕ) → k < n → j < 16 → get_or (get_or (rows n l) k []) j 0 ≡ get_or l (k * 16 + j) 0
in_rows zero l k j h g = absurd (not-suc-le-zero h)
in_rows (suc n) l zero j h g = rw zero-add (get_or-take 16 l j 0 g)
in_rows (suc n) l (suc k) j h g =
    let next : 16 + (k * 16 + j) ≡ suc k * 16 + j = omega arith in
    in_rows n (drop 16 l) k j (le_of_suc-le-suc h) g ∙ get_or-drop 16 l (k * 16 + j) 0 ∙ ap (λ (i : ℕ). get_or l i 0) next

pub returns : goal.returns
unfolding table
returns c =
    let i = c.args.i in
    c.of_rows.ensures ∙ in_rows 16 table (i / 16) (i % 16) (omega arith) (omega arith)
    ∙ ap (λ (n : ℕ). get_or table n 0) (div-add-mod' i 16)
