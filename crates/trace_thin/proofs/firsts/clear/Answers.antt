-- `clear` meets its contract: zeros behind the place, where there is something behind it. Assumes nothing.
use mathlib.Core.Path.{◌≡◌, sym, ap, ◌∙◌}
use Prim.Native.Nat.{ℕ, ◌-◌}
use native.Mathlib.Omega.{arith}
use lib.ListN.{length, take, drop, replicate, length-drop, length-replicate}
use lib.Seq.{length-take-le}
use Rattle.octets.proofs.words.Stores.{part_written}
use Rattle.trace_thin.proofs.firsts.clear.Goals as goal

pub returns-then-place-bytes : goal.returns-then-place-bytes
returns-then-place-bytes c =
    let a = c.args in
    let n = length a.bytes.now - a.place in
    let rest = drop a.place a.bytes.now in
    let long : length (take n rest) ≡ n = length-take-le n rest (omega (arith, length-drop a.place a.bytes.now)) in
    let zeros = c.fill.ensures.after (λ y h. h) ∙ ap (λ (k : ℕ). replicate k 0) long in
    part_written a.place n a.bytes.now _ (replicate n 0) zeros (sym (length-replicate n 0))
    (omega (arith, c.if-place-bytes.true, length-replicate {A = ℕ} n 0))
